use Rattle.std.proofs.Common.{refl}
use Rattle.mq_coder.specs.Decisions.{start_interval, interval_after}
use Rattle.mq_decoder.proofs.Feeding.{holds_first}
use Rattle.mq_decoder.proofs.decoder.Decoder.new.Goals as goal

pub returns-clause-stands : goal.returns-clause-stands
unfolding interval_after start_interval
returns-clause-stands c = record {
  holds = record {
    size = refl;
    holds = rw c.first_c-c.ensures
        (holds_first c.args.bytes.now c.byte_at.result c.byte_in-next.result c.byte_at.ensures.byte c.byte_in-next.ensures.read);
  };
  contexts = c.new.ensures;
}

use Rattle.std.proofs.Common.{◌≡◌, ◌⊎◌, ℕ, List, ap, inl, inr, true}
use Rattle.codestream_reader.specs.Faults.{HasFault}
use Rattle.codestream_reader.specs.declared.refusal.ReadRefusal.{ReadRefusal}
use Rattle.codestream_reader.specs.declared.refusal.ReadRefusal.TheVariants.{Memory}
use Rattle.cinema_run.specs.RightCheck.{reported}
use Rattle.cinema_run.proofs.verdict.judged.Goals as goal

-- a refusal that isn't for want of memory is for a fault
is_fault : (bytes : List ℕ) (refusal : ReadRefusal) → (refusal ≡ Memory → ⊥) →
    (refusal ≡ Memory) ⊎ HasFault bytes refusal → HasFault bytes refusal
is_fault bytes refusal other (inl is) = absurd (other is)
is_fault bytes refusal other (inr fault) = fault

pub returns-in_ok-stream_refused_line-in_default :
    goal.returns-in_ok-stream_refused_line-in_default
returns-in_ok-stream_refused_line-in_default c =
    let refusal = c.in-Err.refusal in
    inr (record {
      meaningless = λ decoding means.
          c.in_default.not-Memory (c.in-Err.ensures.reads decoding means);
      refusal = refusal;
      fault = is_fault c.args.bytes.now refusal c.in_default.not-Memory c.in-Err.ensures.refused;
      is = ap (λ (line : List ℕ). reported line true)
          c.in_ok-stream_refused_line-in_default.ensures;
    })

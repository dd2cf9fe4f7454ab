use Rattle.std.proofs.Common.{arith}
use Rattle.cinema_markers.proofs.ReadLemmas.{read_has, read_once, refused_has, fault_read}
use Rattle.cinema_markers.proofs.read.read_main.Goals as goal

pub returns-clause-found : goal.returns-clause-found
returns-clause-found c =
    read_has c.args.bytes.now c.read_found.result (λ k. omega (arith, c.type_inv.bytes k))
    c.read_found.ensures

pub returns-clause-reads : goal.returns-clause-reads
returns-clause-reads c = read_once c.args.bytes.now c.read_found.result c.read_found.ensures

pub returns-clause-refused : goal.returns-clause-refused
returns-clause-refused c = refused_has c.args.bytes.now c.read_found.result c.read_found.ensures

pub returns-clause-faults : goal.returns-clause-faults
returns-clause-faults c = fault_read c.args.bytes.now c.read_found.result c.read_found.ensures

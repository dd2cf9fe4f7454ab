-- Whether a call of the outside failed.
use Rattle.std.specs.Prelude.{Bool, true, false, Result, Ok, Err}
use Rattle.cine_ports.specs.declared.fault.PortFault.{PortFault}
use Rattle.cine_ports.specs.declared.fault.PortFault.TheVariants as port_fault

-- the call returned Failed; success and out of memory are no failure
abbrev pub is_failed : {T : Type 0} → Result T PortFault → Bool
is_failed (Ok value) = false
is_failed (Err port_fault.Failed) = true
is_failed (Err port_fault.Memory) = false

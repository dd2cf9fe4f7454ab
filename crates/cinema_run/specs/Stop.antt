-- What ends a run before its last frame: a failed call of one of its three objects, or out of
-- memory.
use Rattle.std.specs.Prelude.{ℕ, Bool, true, false, Result, Ok, Err}
use Rattle.cine_ports.specs.declared.fault.PortFault.{PortFault}
use Rattle.cine_ports.specs.declared.fault.PortFault.TheVariants as port_faults
use Rattle.cinema_run.specs.declared.stop.Stop.{Stop}
use Rattle.cinema_run.specs.declared.stop.Stop.TheVariants as stops

-- the status of a run that is ended so
abbrev pub status_of : Stop → ℕ
status_of stops.Source = 3
status_of stops.Outputs = 4
status_of stops.Report = 5
status_of stops.Memory = 6

-- what an error of each object ends a run with
abbrev pub source_stop : PortFault → Stop
source_stop port_faults.Failed = stops.Source
source_stop port_faults.Memory = stops.Memory

abbrev pub outputs_stop : PortFault → Stop
outputs_stop port_faults.Failed = stops.Outputs
outputs_stop port_faults.Memory = stops.Memory

abbrev pub report_stop : PortFault → Stop
report_stop port_faults.Failed = stops.Report
report_stop port_faults.Memory = stops.Memory

-- whether what is returned is that a call of the source failed, of the outputs, of the report
abbrev pub is_source_stop : {T : Type 0} → Result T Stop → Bool
is_source_stop (Ok value) = false
is_source_stop (Err stops.Source) = true
is_source_stop (Err stops.Outputs) = false
is_source_stop (Err stops.Report) = false
is_source_stop (Err stops.Memory) = false

abbrev pub is_outputs_stop : {T : Type 0} → Result T Stop → Bool
is_outputs_stop (Ok value) = false
is_outputs_stop (Err stops.Source) = false
is_outputs_stop (Err stops.Outputs) = true
is_outputs_stop (Err stops.Report) = false
is_outputs_stop (Err stops.Memory) = false

abbrev pub is_report_stop : {T : Type 0} → Result T Stop → Bool
is_report_stop (Ok value) = false
is_report_stop (Err stops.Source) = false
is_report_stop (Err stops.Outputs) = false
is_report_stop (Err stops.Report) = true
is_report_stop (Err stops.Memory) = false

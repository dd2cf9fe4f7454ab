-- What ended a run shows in its status.
use Rattle.std.proofs.Common.{◌≡◌, ◌==◌, Bool, Err, refl}
use Rattle.cinema_run.specs.declared.stop.Stop.{Stop}
use Rattle.cinema_run.specs.declared.stop.Stop.TheVariants as stops
use Rattle.cinema_run.specs.Stop.{status_of, is_source_stop, is_outputs_stop, is_report_stop}

pub source_status : (stop : Stop) → is_source_stop {T = Bool} (Err stop) ≡ (status_of stop == 3)
source_status stops.Source = refl
source_status stops.Outputs = refl
source_status stops.Report = refl
source_status stops.Memory = refl

pub outputs_status : (stop : Stop) → is_outputs_stop {T = Bool} (Err stop) ≡ (status_of stop == 4)
outputs_status stops.Source = refl
outputs_status stops.Outputs = refl
outputs_status stops.Report = refl
outputs_status stops.Memory = refl

pub report_status : (stop : Stop) → is_report_stop {T = Bool} (Err stop) ≡ (status_of stop == 5)
report_status stops.Source = refl
report_status stops.Outputs = refl
report_status stops.Report = refl
report_status stops.Memory = refl

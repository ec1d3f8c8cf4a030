-- Why a step fails where a station is refused a tick.
use Rattle.mka_station.specs.declared.tick_error.TickError.{TickError}
use Rattle.mka_station.specs.declared.tick_error.TickError.TheVariants as faults
use Rattle.lan_core.specs.declared.stop.StepError.{StepError}
use Rattle.lan_core.specs.declared.stop.StepError.TheVariants.{Stopped, Memory}
use Rattle.lan_core.specs.declared.stop.Stop.TheVariants.{DrawsSpent}

abbrev pub error_of_fault : TickError → StepError
error_of_fault faults.DrawsSpent = Stopped DrawsSpent
error_of_fault faults.Memory = Memory

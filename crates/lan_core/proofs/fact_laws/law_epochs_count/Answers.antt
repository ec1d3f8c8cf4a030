use Rattle.lan_core.proofs.EpochsCount.{epochs-count, lives-count}
use Rattle.lan_core.proofs.fact_laws.law_epochs_count.Goals as goal

pub returns : goal.returns
returns c = record { counted = epochs-count; lives = lives-count }

-- For which world two groups at work stand.
use Rattle.std.specs.Prelude.{◌≡◌, ℕ, true, map, length, is_some}
use Rattle.lan_core.specs.Run.{stations}
use Rattle.lan_core.specs.Ledgers.{air}
use Rattle.cak_roll.specs.declared.event.GroupNumber.{GroupNumber}
use Rattle.cak_roll.specs.declared.event.GroupNumber.TheVariants.{First, Second}
use Rattle.cak_roll.specs.Twin.{run_of}
use Rattle.cak_roll.specs.Standing.{StandsFor as TwinStandsFor}
use Rattle.trace_acts.specs.Supply.{supply_nth}
use Rattle.twin_schedule.specs.declared.party.Party.{Party}
use Rattle.twin_schedule.specs.declared.stage.Stage.{Stage}
use Rattle.twin_schedule.specs.World.{World, pair_of, names_in, senders_of, spread_in}
use Rattle.twin_schedule.specs.Acts.{supply}

-- what is kept of one group: its names, who sent its frames, and how many were spread
pub record IsParty (g : GroupNumber) (w : World) (party : Party) : Type 0 where
  pub names : party.names.items ≡ names_in g w.run
  pub senders : party.senders.items ≡ senders_of (air (run_of g w.run))
  pub spread : party.spread ≡ spread_in g w.kept

-- two groups at work stand for a world
pub record StandsFor (w : World) (stage : Stage) : Type 0 where
  pub begun : w.kept.begun ≡ true
  pub named : is_some w.kept.chosen.group ≡ true
  pub chosen : stage.chosen ≡ w.kept.chosen
  pub keyed : stage.keyed ≡ w.kept.second
  pub line : stage.line ≡ w.kept.line
  pub twin : TwinStandsFor (pair_of w) w.kept.users stage.twin w.run
  pub there : is_some stage.twin.second ≡ is_some w.kept.second
  pub draws : (k : ℕ) → supply_nth stage.draws k ≡ supply w k
  pub scis : stage.scis.items ≡ map (λ p. p.sci) (stations (run_of First w.run))
  pub users : stage.users ≡ length w.kept.users
  pub cuts : stage.cuts ≡ w.kept.cuts
  pub first_party : IsParty First w stage.first
  pub second_party : IsParty Second w stage.second

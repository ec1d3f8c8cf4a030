-- What was drawn in the run of a group was drawn in both together.
use Rattle.std.proofs.Common.{◌≡◌, ◌+◌, ◌++◌, ℕ, Bool, true, false, [], ◌∷◌, cond}
use Rattle.std.proofs.Common.{Option, Some, refl}
use Rattle.std.specs.Prelude.{is_some}
use Rattle.lan_base.specs.declared.address.Mi.{Mi}
use Rattle.lan_base.specs.declared.suite.Suite.{Suite}
use Rattle.lan_base.specs.Identifiers.{same_mi}
use Rattle.aes_block.specs.declared.secret.Secret.{Secret}
use Rattle.aes_block.specs.Secrets.{same_secret}
use Rattle.lan_core.specs.Run.{Run, Happening}
use Rattle.lan_core.specs.Lives.{drawn_mi}
use Rattle.lan_core.specs.Stops.{draws_in, mi_number, sak_number, sak_of_tick, is_drawn}
use Rattle.cak_roll.specs.declared.event.GroupNumber.{GroupNumber}
use Rattle.cak_roll.specs.declared.event.GroupNumber.TheVariants.{First, Second}
use Rattle.cak_roll.specs.Twin.{Twin, run_of, merged}

-- what was drawn in a run was drawn in another
pub record IsAmong (suite : Suite) (r whole : Run) : Type 0 where
  pub mis : (mi : Mi) → is_some (mi_number suite r mi) ≡ true
      → is_some (mi_number suite whole mi) ≡ true
  pub saks : (sak : Secret) → is_some (sak_number suite r sak) ≡ true
      → is_some (sak_number suite whole sak) ≡ true

more : (b : Bool) (n : ℕ) (o : Option ℕ) → is_some o ≡ true → is_some (cond b (Some n) o) ≡ true
more true n o some = refl
more false n o some = some

both : (b : Bool) (n m : ℕ) (o p : Option ℕ) → (is_some o ≡ true → is_some p ≡ true)
    → is_some (cond b (Some n) o) ≡ true → is_some (cond b (Some m) p) ≡ true
both true n m o p among some = refl
both false n m o p among some = among some

-- an event more in the run of another group
pub among-more : (suite : Suite) (y : Happening) (r whole : Run) → IsAmong suite r whole
    → IsAmong suite r (y ∷ whole)
unfolding mi_number sak_number
among-more suite y r whole among = record {
  mis = λ mi some. more (is_drawn same_mi mi (drawn_mi y.facts)) (draws_in suite whole + 1)
      (mi_number suite whole mi) (among.mis mi some);
  saks = λ sak some. more (is_drawn same_secret sak (sak_of_tick y.facts y.event))
      (draws_in suite whole + 1) (sak_number suite whole sak) (among.saks sak some);
}

-- an event more in this one
pub among-both : (suite : Suite) (y : Happening) (r whole : Run) → IsAmong suite r whole
    → IsAmong suite (y ∷ r) (y ∷ whole)
unfolding mi_number sak_number
among-both suite y r whole among = record {
  mis = λ mi some. both (is_drawn same_mi mi (drawn_mi y.facts)) (draws_in suite r + 1)
      (draws_in suite whole + 1) (mi_number suite r mi) (mi_number suite whole mi)
      (among.mis mi) some;
  saks = λ sak some. both (is_drawn same_secret sak (sak_of_tick y.facts y.event))
      (draws_in suite r + 1) (draws_in suite whole + 1) (sak_number suite r sak)
      (sak_number suite whole sak) (among.saks sak) some;
}

pub among-mores : (suite : Suite) (ys r whole : Run) → IsAmong suite r whole
    → IsAmong suite r (ys ++ whole)
among-mores suite [] r whole among = among
among-mores suite (y ∷ ys) r whole among =
    among-more suite y r (ys ++ whole) (among-mores suite ys r whole among)

pub among-boths : (suite : Suite) (ys r whole : Run) → IsAmong suite r whole
    → IsAmong suite (ys ++ r) (ys ++ whole)
among-boths suite [] r whole among = among
among-boths suite (y ∷ ys) r whole among =
    among-both suite y (ys ++ r) (ys ++ whole) (among-boths suite ys r whole among)

pub among-none : (suite : Suite) → IsAmong suite [] []
among-none suite = record { mis = λ mi some. some; saks = λ sak some. some }

pub among-merged : (suite : Suite) (t : Twin) (g : GroupNumber)
    → IsAmong suite (run_of g t) (merged t)
unfolding run_of merged
among-merged suite [] g = among-none suite
among-merged suite (x ∷ t) First =
    among-mores suite x.second (x.first ++ run_of First t) (x.first ++ merged t)
    (among-boths suite x.first (run_of First t) (merged t) (among-merged suite t First))
among-merged suite (x ∷ t) Second =
    among-boths suite x.second (run_of Second t) (x.first ++ merged t)
    (among-mores suite x.first (run_of Second t) (merged t) (among-merged suite t Second))

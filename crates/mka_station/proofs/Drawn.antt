-- The draws that a tick takes.
use Rattle.std.proofs.Common.{◌≡◌, ◌∙◌, ◌&&◌, ℕ, Bool, cond, List, Option, Some, None, ap}
use Rattle.lan_base.specs.declared.suite.Suite.{Suite}
use Rattle.lan_base.specs.Suites.{sak_draws}
use Rattle.aes_block.specs.declared.secret.Secret.{Secret}
use Rattle.sak_exchange.specs.declared.due.Seen.{Seen}
use Rattle.mka_station.specs.Lives.{Member, Entry}
use Rattle.mka_station.specs.Drawing.{sak_of, draws_at, makes_next}

pub sak-is : (m : Member) (p : List Entry) (seen : Seen) (nth : ℕ → Option (List ℕ)) (makes : Bool) (suite : Suite) (sak : Option Secret) → makes ≡ makes_next m p seen → suite ≡ m.setup.suite
    → sak ≡ cond makes (Some (sak_of suite nth)) None → sak ≡ cond (makes_next m p seen) (Some (sak_of m.setup.suite nth)) None
sak-is m p seen nth makes suite sak a b is = is ∙ ap (λ (x : Bool). cond x (Some (sak_of suite nth)) None) a ∙ ap (λ (x : Suite). cond (makes_next m p seen) (Some (sak_of x nth)) None) b

pub taken-is : (m : Member) (p : List Entry) (seen : Seen) (makes : Bool) (suite : Suite) → makes ≡ makes_next m p seen → suite ≡ m.setup.suite
    → cond makes (sak_draws suite) 0 ≡ draws_at m p seen
taken-is m p seen makes suite a b = ap (λ (x : Bool). cond x (sak_draws suite) 0) a ∙ ap (λ (x : Suite). cond (makes_next m p seen) (sak_draws x) 0) b

-- What a group that stands for a run says of a station.
use Rattle.std.proofs.Common.{◌≡◌, ℕ, ◌<◌, ◌∷◌, length, Option, Some, None, List, sym, ◌∙◌, subst, refl}
use Rattle.std.proofs.Common.{arith}
use Rattle.std.specs.Prelude.{slice_get}
use Rattle.lan_base.specs.declared.frame.UserFrame.{UserFrame}
use Rattle.rx_slots.specs.Histories.{Receiving}
use Rattle.sak_exchange.specs.Held.{KeepsRules}
use Rattle.lan_core.specs.declared.settings.Settings.{Settings}
use Rattle.lan_core.specs.Run.{Run, Happening, Profile, stations}
use Rattle.lan_core.specs.Ledgers.{installs_at}
use Rattle.lan_core.specs.Lives.{Life, life, keys_in, receiving}
use Rattle.lan_core.specs.Standing.{State, StandsFor, Seat, Sits, IsSeated}
use Rattle.group_safety.proofs.once.Nexts.{get-less}
use Rattle.group_safety.proofs.moves.Moving.{IsKnown}

pub record IsSat (settings : Settings) (h : List Receiving) (count : ℕ) (p : Option Profile) (l : Life) : Type 0 where
  pub seat : Seat
  pub profile : Profile
  pub there : p ≡ Some profile
  pub sits : Sits settings.window l h seat
  pub installs : seat.installs ≡ count

sat : (settings : Settings) (h : List Receiving) (count : ℕ) (q : Option Seat) (o : Option Life) (p : Option Profile) (l : Life) → IsSeated settings h count q o p → o ≡ Some l → IsSat settings h count p l
sat settings h count (Some q) (Some m) (Some g) l is e = let same : m ≡ l = cc e in
    subst (IsSat settings h count (Some g)) same (record { seat = q; profile = g; there = refl; sits = is.0; installs = is.2 })
sat settings h count None None None l is e = absurd (cc e)
sat settings h count (Some q) (Some m) None l is e = absurd is
sat settings h count (Some q) None p l is e = absurd (cc e)
sat settings h count None (Some m) p l is e = absurd is
sat settings h count None None (Some g) l is e = absurd (cc e)

unsat : (settings : Settings) (h : List Receiving) (count : ℕ) (q : Option Seat) (o : Option Life) (p : Option Profile) → IsSeated settings h count q o p → o ≡ None → count ≡ 0
unsat settings h count None None None is e = is.1
unsat settings h count (Some q) (Some m) p is e = absurd (cc e)
unsat settings h count None (Some m) p is e = absurd (cc e)
unsat settings h count (Some q) None p is e = absurd is
unsat settings h count None None (Some g) is e = absurd is

pub known-by : (settings : Settings) (users : List UserFrame) (old new : State) (x : Happening) (r : Run) (s : ℕ) → StandsFor settings users old r → StandsFor settings users new (x ∷ r) → IsKnown settings s x r
known-by settings users old new x r s before after = record {
  kept = λ l e. (at l e).sits.station.keys.kept;
  counts = λ l e. sym (at l e).sits.installs ∙ (at l e).installs;
  none = λ e. unsat settings _ _ _ _ _ (before.seats s) e;
  there = λ l e. get-less (stations r) s (at l e).profile (at l e).there;
  room = λ l e. let c = sym (then l e).sits.installs ∙ (then l e).installs in let most = after.within.installs s in omega arith;
}
  where
    at : (l : Life) → life settings s r ≡ Some l → IsSat settings (receiving s r) (length (installs_at s r)) (slice_get (stations r) s) l
    at l e = sat settings _ _ _ _ _ l (before.seats s) e

    then : (l : Life) → life settings s (x ∷ r) ≡ Some l → IsSat settings (receiving s (x ∷ r)) (length (installs_at s (x ∷ r))) (slice_get (stations (x ∷ r)) s) l
    then l e = sat settings _ _ _ _ _ l (after.seats s) e

pub kept-by : (settings : Settings) (users : List UserFrame) (old : State) (r : Run) → StandsFor settings users old r → (s : ℕ) (l : Life) → life settings s r ≡ Some l → KeepsRules l.member.base (keys_in l)
kept-by settings users old r before s l e = (sat settings _ _ _ _ _ l (before.seats s) e).sits.station.keys.kept

pub none-by : (settings : Settings) (users : List UserFrame) (old : State) (r : Run) → StandsFor settings users old r → (s : ℕ) → life settings s r ≡ None → length (installs_at s r) ≡ 0
none-by settings users old r before s e = unsat settings _ _ _ _ _ (before.seats s) e

pub there-by : (settings : Settings) (users : List UserFrame) (old : State) (r : Run) → StandsFor settings users old r → (s : ℕ) (l : Life) → life settings s r ≡ Some l → s < length (stations r)
there-by settings users old r before s l e = let a = sat settings _ _ _ _ _ l (before.seats s) e in get-less (stations r) s a.profile a.there

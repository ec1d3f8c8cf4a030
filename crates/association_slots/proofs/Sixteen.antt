-- At most sixteen numbers of one epoch are lost: each lost addition has a seat of eight, and a load of that epoch or of a lower one.
use Rattle.std.proofs.Common.{◌≡◌, ◌⊎◌, ℕ, zero, suc, ◌+◌, ◌*◌, ◌<◌, ◌≤◌, Bool, true, false, not, List, [], ◌∷◌, refl, ap, ⊎_elim, arith, eq-eqb, eqb}
use Rattle.std.proofs.lemmas.Bool.{false≢true, eqb-true, and_parts, and_from, cases_Bool, cases_eq}
use Rattle.lan_base.specs.declared.association_number.AssociationNumber.{AssociationNumber}
use Rattle.association_slots.specs.Views.{Among, adds, tally, one, lost, count}
use Rattle.association_slots.specs.Learned.{Learned}
use Rattle.association_slots.specs.Rule.{Ledger, tagged}
use Rattle.association_slots.specs.declared.view.Addition.{Addition}
use Rattle.association_slots.specs.declared.view.ControlView.{ControlView}
use Rattle.association_slots.specs.declared.view.View.{View}
use Rattle.association_slots.specs.declared.view.View.TheVariants.{Control}
use Rattle.association_slots.proofs.Lists.{tally_mono, tally_plus, tally_none}

-- how many tags of the first seats the addition has
abbrev tags_below : ℕ → ℕ → Addition → ℕ
tags_below zero e a = 0
tags_below (suc q) e a = (one (tagged (suc q) e true a) + one (tagged (suc q) e false a)) + tags_below q e a

one_true : (b : Bool) → b ≡ true → one b ≡ 1
one_true b is = ap one is

tag_of : (q e : ℕ) (a : Addition) → a.claimed ≡ false → a.seat ≡ q → a.met ≡ e → 1 ≤ one (tagged q e true a) + one (tagged q e false a)
tag_of q e a w s m = ⊎_elim
    (λ t. let x = one_true (tagged q e true a) (and_from _ _ (ap not w) (and_from _ _ (eq-eqb a.seat q s) (and_from _ _ (eq-eqb a.met e m) t))) in omega arith)
    (λ f. let x = one_true (tagged q e false a) (and_from _ _ (ap not w) (and_from _ _ (eq-eqb a.seat q s) (and_from _ _ (eq-eqb a.met e m) (ap not f)))) in omega arith)
    (cases_Bool (eqb a.loaded e))

tag_below : (q e : ℕ) (a : Addition) → a.claimed ≡ false → 0 < a.seat → a.seat < suc q → a.met ≡ e → 1 ≤ tags_below q e a
tag_below zero e a w z s m = absurd (omega arith)
tag_below (suc q) e a w z s m = ⊎_elim (λ is. let t = tag_of (suc q) e a w is m in omega arith) (λ ne. let t = tag_below q e a w z (⊎_elim (λ l. l) (λ h. absurd (ne (omega arith))) (split a.seat (suc q))) m in omega arith) (cases_eq a.seat (suc q))
  where
    split : (x y : ℕ) → (x < y) ⊎ (y ≤ x)
    split x y = Rattle.std.proofs.lemmas.Bool.cases_lt x y

tags_few : (vs : List View) (e : ℕ) → ((q : ℕ) (same : Bool) → tally (λ a. one (tagged q e same a)) vs ≤ 1) → (q : ℕ) → tally (tags_below q e) vs ≤ 2 * q
tags_few vs e few zero = let z = tally_none (λ a. 0) vs (λ a i. refl) in omega arith
tags_few vs e few (suc q) =
    let r = tags_few vs e few q in let a = few (suc q) true in let b = few (suc q) false in
    let s = tally_plus (λ a. one (tagged (suc q) e true a) + one (tagged (suc q) e false a)) (tags_below q e) vs in
    let t = tally_plus (λ a. one (tagged (suc q) e true a)) (λ a. one (tagged (suc q) e false a)) vs in omega arith

-- of any views, where each addition has a seat of eight, and each seat got nothing at most twice
sixteen_of : (vs : List View) (k : AssociationNumber) (e : ℕ) → ((a : Addition) → Among adds a vs → (0 < a.seat) × (a.seat < 9)) → ((q : ℕ) (same : Bool) → tally (λ a. one (tagged q e same a)) vs ≤ 1) → tally (λ a. one (lost k e a)) vs ≤ 16
sixteen_of vs k e seats twice =
    let m = tally_mono (λ a. one (lost k e a)) (tags_below 8 e) vs (λ a i. ⊎_elim
    (λ t. let both = and_parts _ _ t in let s = seats a i in let x = one_true (lost k e a) t in
    let r = tag_below 8 e a (not_true a.claimed both.1) s.0 s.1 (eqb-true a.met e (and_parts _ _ both.0).1) in omega arith)
    (λ f. let x : one (lost k e a) ≡ 0 = ap one f in omega arith) (cases_Bool (lost k e a))) in
    let f = tags_few vs e twice 8 in omega arith
  where
    not_true : (b : Bool) → not b ≡ true → b ≡ false
    not_true true e = absurd (false≢true e)
    not_true false e = refl

pub sixteen : (c : ControlView) (ws : List ℕ) (vs : List View) (k : AssociationNumber) (e : ℕ) → Ledger c ws vs → tally (λ a. one (lost k e a)) vs ≤ 16
sixteen c ws vs k e ok = sixteen_of vs k e (λ a i. (ok.additions a i).seat) (λ q s. ok.twice q e s)

-- of what control was told
pub sixteen_told : (c : ControlView) (k : AssociationNumber) (e : ℕ) → Learned c → count (lost k e) c.told ≤ 16
sixteen_told c k e ok = let few = sixteen_of (Control c ∷ []) k e (λ a i. (ok.additions a (⊎_elim (λ j. j) (λ b. absurd b) i)).seat) (λ q s. let t = ok.twice q e s in omega arith) in omega arith

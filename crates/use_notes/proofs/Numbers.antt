-- Whether two packet numbers of senders under keys are one, and whether two check values are.
use Rattle.std.proofs.Common.{◌≡◌, ◌≢◌, ◌∙◌, ◌⊎◌, inl, inr, ℕ, Bool, true, false, List, refl, sym, ap, subst}
use Rattle.std.specs.Prelude.{nat_eq, ◌==◌}
use Rattle.std.proofs.lemmas.Bool.{and_parts, eqb-true, eq-eqb}
use Rattle.std.proofs.lemmas.Cmp.{nat_list_eq_equiv}
use Rattle.std.proofs.lemmas.Map.Lookups.{exact_bytes}
use Rattle.std.specs.Cmp.Lexicographic.{slice_cmp, texts_ties}
use Rattle.std.specs.Ordering.{nat_cmp}
use lib.Pointwise.{pointwise}
use Rattle.lan_base.specs.declared.address.Sci.{Sci}
use Rattle.lan_base.specs.Identifiers.{same_sci}
use Rattle.least_pairs.proofs.Public.{nat_dec}
use Rattle.use_notes.specs.declared.frame.RightFrame.{RightFrame}
use Rattle.use_notes.specs.Frames.{is_of, same_check}
use Rattle.use_notes.specs.Once.{Number}
use Rattle.use_notes.proofs.Firsts.{equal}

abbrev pub Told : {A : Type 0} → A → A → Type 0
Told a b = (a ≡ b) ⊎ (a ≢ b)

pub same-lists : (a b : List ℕ) → pointwise nat_eq a b ≡ true → a ≡ b
same-lists a b e = exact_bytes a b (equal (slice_cmp nat_cmp a b) (sym (texts_ties a b) ∙ e))

pub list-itself : (a : List ℕ) → pointwise nat_eq a a ≡ true
list-itself a = nat_list_eq_equiv.refl a

pub list_dec : (a b : List ℕ) → Told a b
list_dec a b = go (pointwise nat_eq a b) refl
  where
    go : (c : Bool) → pointwise nat_eq a b ≡ c → Told a b
    go true is = inl (same-lists a b is)
    go false is = inr (λ e. absurd (cc (sym is ∙ ap (pointwise nat_eq a) (sym e) ∙ list-itself a)))

pub sci-of : (a b : Sci) → a.0 ≡ b.0 → a ≡ b
sci-of a b e = λ t. record { 0 = e t }

pub number_dec : (a b : Number) → Told a b
number_dec a b = go (nat_dec a.key b.key) (list_dec a.sci.0 b.sci.0) (nat_dec a.pn b.pn)
  where
    go : Told a.key b.key → Told a.sci.0 b.sci.0 → Told a.pn b.pn → Told a b
    go (inl e) (inl f) (inl g) = inl (λ t. record { key = e t; sci = record { 0 = f t }; pn = g t })
    go (inr n) f g = inr (λ e. n (ap (λ (k : Number). k.key) e))
    go (inl e) (inr n) g = inr (λ f. n (ap (λ (k : Number). k.sci.0) f))
    go (inl e) (inl f) (inr n) = inr (λ g. n (ap (λ (k : Number). k.pn) g))

-- ---- a frame of a key and a sender

pub of-itself : (e : RightFrame) → is_of e.key e.sci e ≡ true
of-itself e = rw (eq-eqb e.key e.key refl, list-itself e.sci.0) refl

pub is-of : (key : ℕ) (sci : Sci) (e : RightFrame) → is_of key sci e ≡ true → (e.key ≡ key) × (e.sci ≡ sci)
is-of key sci e is =
    let both = and_parts (e.key == key) (same_sci e.sci sci) is in
    (eqb-true e.key key both.0, sci-of e.sci sci (same-lists e.sci.0 sci.0 both.1))

-- ---- check values

-- what two agree with, they agree in
pub check-joins : (u v w : List ℕ) → same_check u v ≡ true → same_check u w ≡ true → same_check v w ≡ true
check-joins u v w e f =
    subst (λ x. same_check v x ≡ true) (sym (same-lists u v e) ∙ same-lists u w f) (list-itself v)

pub check-itself : (u v : List ℕ) → u ≡ v → same_check u v ≡ true
check-itself u v e = ap (same_check u) (sym e) ∙ list-itself u

pub check-turned : (u v : List ℕ) → same_check u v ≡ same_check v u
check-turned u v = nat_list_eq_equiv.symm u v

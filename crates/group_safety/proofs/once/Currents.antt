-- Which life of a station is the current one.
use Rattle.std.proofs.Common.{◌≡◌, ◌≢◌, refl, sym, ap, ◌∙◌, subst, inl, inr, ◌⊎◌, ℕ, List, [], ◌∷◌}
use Rattle.std.proofs.Common.{Option, Some, None}
use Rattle.std.proofs.lemmas.Bool.Decides.{eqb_tells}
use Rattle.lan_core.specs.Ledgers.{Birth}
use Rattle.lan_base.specs.Differing.{AllDiffer}
use Rattle.group_safety.proofs.Members.{In, in-map, in-from_map}
use Rattle.group_safety.proofs.once.Places.{IsTail, in-tail, same-place}
use Rattle.group_safety.proofs.once.Places.{differs-in}
use Rattle.lan_base.specs.declared.address.Mi.{Mi}
use Rattle.group_safety.proofs.once.Ledgers.{Deeds, mis, current, with_life}

pub some-same : {X : Type 0} {x y : X} → Some x ≡ Some y → x ≡ y
some-same e = cc

pub none-some : {X : Type 0} {x : X} → None ≡ Some x → ⊥
none-some e = cc

-- either the life that was put there, or the one that was there before at another station
pub with-life-cases : (s t : ℕ) (l n : Deeds) (before : ℕ → Option Deeds)
    → with_life s l before t ≡ Some n → ((s ≡ t) × (l ≡ n)) ⊎ ((s ≢ t) × (before t ≡ Some n))
with-life-cases s t l n before h = elim (eqb_tells s t) [
  | inl y ↦ inl (y.1, some-same (rw y.0 at h))
  | inr y ↦ inr (y.1, rw y.0 at h)
]

pub current-new : (s : ℕ) (m : Mi) (bs : List Birth)
    → current s (record { station = s; mi = m } ∷ bs) ≡ Some m
current-new s m bs = elim (eqb_tells s s) [
  | inl y ↦ rw y.0
  | inr y ↦ absurd (y.1 refl)
]

pub current-other : (s t : ℕ) (m : Mi) (bs : List Birth) → s ≢ t
    → current t (record { station = s; mi = m } ∷ bs) ≡ current t bs
current-other s t m bs n = elim (eqb_tells s t) [
  | inl y ↦ absurd (n y.1)
  | inr y ↦ rw y.0
]

pub in-current : (s : ℕ) (m : Mi) (bs : List Birth) → current s bs ≡ Some m → (b : Birth) × In b bs
    × (b.station ≡ s) × (b.mi ≡ m)
in-current s m [] e = absurd (none-some e)
in-current s m (b ∷ bs) e = elim (eqb_tells b.station s) [
  | inl y ↦ (b, inl refl, y.1, some-same (rw y.0 at e))
  | inr y ↦ let r = in-current s m bs (rw y.0 at e) in (r.0, inr r.1, r.2, r.3)
]

pub in-mis : (s : ℕ) (m : Mi) (bs : List Birth) → current s bs ≡ Some m → In m (mis bs)
in-mis s m bs e = let r = in-current s m bs e in
    subst (λ w. In w (mis bs)) r.3 (in-map (λ b. b.mi) bs r.0 r.1)

-- two stations have two lives
pub current-apart : (s t : ℕ) (m : Mi) (bs : List Birth) → AllDiffer (mis bs)
    → current s bs ≡ Some m → current t bs ≡ Some m → s ≡ t
current-apart s t m bs d e f =
    let b = in-current s m bs e in let c = in-current t m bs f in
    sym b.2 ∙ ap (λ (x : Birth). x.station)
    (same-place (λ b. b.mi) bs d b.0 c.0 b.1 c.1 (b.3 ∙ sym c.3)) ∙ c.2

-- who had begun earlier has begun
pub in-older : (old bs : List Birth) (m : Mi) → IsTail old bs → In m (mis old) → In m (mis bs)
in-older old bs m t h =
    let r = in-from_map (λ (b : Birth). b.mi) old m h in
    subst (λ w. In w (mis bs)) (sym r.2)
    (in-map (λ (b : Birth). b.mi) bs r.0 (in-tail old bs r.0 t r.1))

-- a life that is current now and had begun then was current then
pub current-then : (s : ℕ) (m : Mi) (old bs : List Birth) → AllDiffer (mis bs) → IsTail old bs
    → current s bs ≡ Some m → In m (mis old) → current s old ≡ Some m
current-then s m old [] d t e h = absurd (none-some e)
current-then s m old (b ∷ bs) d (inl t) e h = subst (λ w. current s w ≡ Some m) (sym t) e
current-then s m old (b ∷ bs) d (inr t) e h = elim (eqb_tells b.station s) [
  | inl y ↦
      absurd (differs-in b.mi m (mis bs) d.0 (in-older old bs m t h) (some-same (rw y.0 at e)))
  | inr y ↦ current-then s m old bs d.1 t (rw y.0 at e) h
]

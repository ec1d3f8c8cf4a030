-- Each type from 1 to 4 has its place, and takes it once.
use Rattle.std.specs.Prelude.{is_some, not, ◌&&◌}
use Rattle.std.specs.List.{list_any}
use Rattle.std.proofs.Common.{◌≡◌, ◌≢◌, ℕ, ◌≤◌, ◌⊎◌, inl, inr, true, false, cond, leb, eqb, List, ◌∷◌, Option, Some, None, Result, Ok, Err, refl, sym, ap, ◌∙◌, arith}
use Rattle.std.proofs.lemmas.Bool.{leb-true, eqb-true, eqb-false, and_parts}
use Rattle.mkpdu_codec.specs.declared.refusal.Refusal.{Refusal}
use Rattle.mkpdu_codec.specs.declared.refusal.Refusal.TheVariants.{Repeated}
use Rattle.mkpdu_codec.specs.Frames.{Set, has_highs}
use Rattle.mkpdu_codec.specs.Refusals.{is_single}
use Rattle.mkpdu_codec.specs.Reading.{Gathered, noted, placed}

-- the place of a type
abbrev pub slot : ℕ → Gathered → Option Set
slot k g = cond (eqb k 1) g.live (cond (eqb k 2) g.potential (cond (eqb k 3) g.uses (cond (eqb k 4) g.given None)))

-- a set put into the place of its type
abbrev pub put : Set → Gathered → Gathered
put s g = record {
  live = cond (eqb s.kind 1) (Some s) g.live;
  potential = cond (eqb s.kind 2) (Some s) g.potential;
  uses = cond (eqb s.kind 3) (Some s) g.uses;
  given = cond (eqb s.kind 4) (Some s) g.given;
  highs = g.highs;
}

-- a type that has no place
pub record IsOther (k : ℕ) : Type 0 where
  pub one : eqb k 1 ≡ false
  pub two : eqb k 2 ≡ false
  pub three : eqb k 3 ≡ false
  pub four : eqb k 4 ≡ false
  pub single : is_single k ≡ false

abbrev pub Kinds : ℕ → Type 0
Kinds k = (k ≡ 1) ⊎ ((k ≡ 2) ⊎ ((k ≡ 3) ⊎ ((k ≡ 4) ⊎ IsOther k)))

pub single_range : (k : ℕ) → is_single k ≡ true → (1 ≤ k) × (k ≤ 4)
single_range k e = let p = and_parts (leb 1 k) (leb k 4) e in (leb-true 1 k p.0, leb-true k 4 p.1)

not_single : (k : ℕ) → k ≢ 1 → k ≢ 2 → k ≢ 3 → k ≢ 4 → is_single k ≡ false
not_single k a b c d =
    elim (is_single k) as (λ t. is_single k ≡ t → is_single k ≡ false) [
      | true ↦ λ e. absurd (let p = single_range k e in omega (arith, p.0, p.1, a, b, c, d))
      | false ↦ λ e. e
    ] refl

pub kinds : (k : ℕ) → Kinds k
kinds k =
    elim (eqb k 1) as (λ t. eqb k 1 ≡ t → Kinds k) [
      | true ↦ λ e. inl (eqb-true k 1 e)
      | false ↦ λ e1. elim (eqb k 2) as (λ t. eqb k 2 ≡ t → Kinds k) [
        | true ↦ λ e. inr (inl (eqb-true k 2 e))
        | false ↦ λ e2. elim (eqb k 3) as (λ t. eqb k 3 ≡ t → Kinds k) [
          | true ↦ λ e. inr (inr (inl (eqb-true k 3 e)))
          | false ↦ λ e3. elim (eqb k 4) as (λ t. eqb k 4 ≡ t → Kinds k) [
            | true ↦ λ e. inr (inr (inr (inl (eqb-true k 4 e))))
            | false ↦ λ e4. inr (inr (inr (inr (record { one = e1; two = e2; three = e3; four = e4; single = not_single k (eqb-false k 1 e1) (eqb-false k 2 e2) (eqb-false k 3 e3) (eqb-false k 4 e4) }))))
          ] refl
        ] refl
      ] refl
    ] refl

-- what placing a set gives
abbrev pub placing : Gathered → Set → Result Gathered Refusal
placing g s = cond (is_single s.kind) (cond (is_some (slot s.kind g)) (Err (Repeated s.kind)) (Ok (put s g))) (Ok (noted s g))

pub placed-is : (g : Gathered) (s : Set) → placed g s ≡ placing g s
unfolding placed
placed-is g s = go (kinds s.kind) where
  go : Kinds s.kind → placed g s ≡ placing g s
  go (inl e) = rw e refl
  go (inr (inl e)) = rw e refl
  go (inr (inr (inl e))) = rw e refl
  go (inr (inr (inr (inl e)))) = rw e refl
  go (inr (inr (inr (inr o)))) = rw (o.one, o.two, o.three, o.four, o.single) refl

pub slot-put : (k : ℕ) (s : Set) (g : Gathered) → is_single k ≡ true → slot k (put s g) ≡ cond (eqb s.kind k) (Some s) (slot k g)
slot-put k s g single = go (kinds k) where
  go : Kinds k → slot k (put s g) ≡ cond (eqb s.kind k) (Some s) (slot k g)
  go (inl e) = rw e refl
  go (inr (inl e)) = rw e refl
  go (inr (inr (inl e))) = rw e refl
  go (inr (inr (inr (inl e)))) = rw e refl
  go (inr (inr (inr (inr o)))) = absurd (let no : true ≡ false = sym single ∙ o.single in cc)

-- keeping high halves leaves the places as they are
pub slot-noted : (k : ℕ) (s : Set) (g : Gathered) → slot k (noted s g) ≡ slot k g
slot-noted k s g =
    elim (has_highs s && not (is_some g.highs)) as (λ t. slot k (cond t (record g { highs = Some s }) g) ≡ slot k g) [
      | true ↦ refl
      | false ↦ refl
    ]

-- the places that are taken are those of the types that were met
abbrev pub HasMet : Gathered → List ℕ → Type 0
HasMet g met = (k : ℕ) → is_single k ≡ true → is_some (slot k g) ≡ list_any (λ j. eqb j k) met

pub HasMet-put : (s : Set) (g : Gathered) (met : List ℕ) → HasMet g met → HasMet (put s g) (s.kind ∷ met)
HasMet-put s g met h k single =
    let at = slot-put k s g single in
    elim (eqb s.kind k) as (λ t. eqb s.kind k ≡ t → is_some (slot k (put s g)) ≡ list_any (λ j. eqb j k) (s.kind ∷ met)) [
      | true ↦ λ e. rw (at, e) refl
      | false ↦ λ e. rw (at, e) (h k single)
    ] refl

pub HasMet-other : (s : Set) (g : Gathered) (met : List ℕ) → is_single s.kind ≡ false → HasMet g met → HasMet (noted s g) (s.kind ∷ met)
HasMet-other s g met other h k single =
    ap is_some (slot-noted k s g) ∙
    elim (eqb s.kind k) as (λ t. eqb s.kind k ≡ t → is_some (slot k g) ≡ list_any (λ j. eqb j k) (s.kind ∷ met)) [
      | true ↦ λ e. absurd (let same : s.kind ≡ k = eqb-true s.kind k e in let no : true ≡ false = sym single ∙ ap is_single (sym same) ∙ other in cc)
      | false ↦ λ e. rw e (h k single)
    ] refl

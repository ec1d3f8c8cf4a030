-- A frame that is told to the speakers of all SCIs is counted under each member beside it once.
use Rattle.std.proofs.Common.{◌≡◌, ◌∙◌, ℕ, Bool, true, false, cond, List, [], ◌∷◌, map, Option, Some, None, refl, sym, ap}
use Rattle.std.specs.Prelude.{◌==◌, ◌&&◌}
use Rattle.std.specs.List.Sorted.{IsStrictlySortedBy}
use Rattle.std.specs.Map.{lookup}
use Rattle.std.specs.BTreeMap.{is_at}
use Rattle.std.specs.Ordering.{is_eq}
use Rattle.std.specs.declared.cmp.Ordering.{Ordering}
use Rattle.std.specs.declared.cmp.Ordering.TheVariants.{Less}
use Rattle.std.specs.List.{AllByRecursion}
use Rattle.std.proofs.lemmas.Bool.{and_parts, eqb-true, eq-eqb}
use Rattle.std.proofs.lemmas.Map.Keys.{sorted_head, sorted_tail}
use Rattle.lan_base.specs.declared.address.Mi.{Mi}
use Rattle.lan_base.specs.declared.address.Sci.{Sci}
use Rattle.lan_base.specs.Identifiers.{same_mi, same_sci}
use Rattle.use_notes.specs.declared.frame.RightFrame.{RightFrame}
use Rattle.rollover_notes.specs.declared.counts.Counts.{Counts}
use Rattle.rollover_notes.specs.declared.timing.Timing.{Timing}
use Rattle.rollover_notes.specs.declared.timing.Timing.TheVariants.{InTime}
use Rattle.rollover_notes.specs.Events.{Event}
use Rattle.rollover_notes.specs.Speaking.{Member, Said, is_beside_by, is_mi, is_near, said, speaker}
use Rattle.rollover_notes.specs.Timings.{timing}
use Rattle.rollover_notes.specs.Counted.{Pair, counted, timing_to}
use Rattle.rollover_notes.specs.Standing.{number_sci_cmp}
use Rattle.rollover_notes.specs.inside.Walking.{Speaker, is_voice, member_of, timing_from, told, walked}
use Rattle.rollover_notes.proofs.Ties.{equal, exact-number-sci, mi-is, mi-itself, number-sci-ties, pair-ties, sci-itself}

abbrev pub found : List Speaker → ℕ × Sci → Option Mi
found es at = lookup (is_at (number_sci_cmp at)) es

abbrev pub IsSorted : List Speaker → Type 0
IsSorted es = IsStrictlySortedBy number_sci_cmp (map (λ (e : Speaker). e.0) es)

-- what stands first stands nowhere else
none-less : (k : ℕ × Sci) (es : List Speaker) → AllByRecursion (λ y. number_sci_cmp k y ≡ Less) (map (λ (e : Speaker). e.0) es)
    → found es k ≡ None
none-less k [] all = refl
none-less k (e ∷ es) all =
    ap (λ (o : Ordering). cond (is_eq o) (Some e.1) (found es k)) all.0 ∙ none-less k es all.1

pub once : (e : Speaker) (es : List Speaker) → IsSorted (e ∷ es) → found es e.0 ≡ None
once e es sorted = none-less e.0 es (sorted_head number_sci_cmp e.0 (map (λ (e : Speaker). e.0) es) sorted)

module _ (h : List Event) (frame : RightFrame) where
  abbrev judged : Member → Timing
  judged m = timing h frame m

  abbrev pub timing_of : Speaker → Timing
  timing_of s = timing_from (said h) judged frame s

  abbrev pub near : ℕ → Said → Bool
  near group s = is_near (λ mi. said h (group, mi)) frame s

  -- what it is to a member, by the speakers of a list
  abbrev beside_in : List Speaker → Member → Option Said → Timing
  beside_in es m None = InTime
  beside_in es m (Some s) = cond (is_mi m.1 (found es (m.0, s.sci)) && near m.0 s) (judged m) InTime

  abbrev pub timing_in : List Speaker → Pair → Timing
  timing_in es p = cond (frame.key == p.0) (beside_in es p.1 (said h p.1)) InTime

  -- the frame as it is to one speaker is what it is to its member, where that spoke under the SCI
  one-voice : (at : ℕ × Sci) (mi : Mi) (o : Option Said) → said h (at.0, mi) ≡ o
      → timing_of (at, mi) ≡ cond (is_voice (said h) frame at o) (judged (at.0, mi)) InTime
  one-voice at mi o is = ap (λ (o : Option Said). cond (is_voice (said h) frame at o) (judged (at.0, mi)) InTime) is

  unheard : (at : ℕ × Sci) (mi : Mi) → said h (at.0, mi) ≡ None → timing_of (at, mi) ≡ InTime
  unheard at mi is = one-voice at mi None is

  elsewhere : (at : ℕ × Sci) (mi : Mi) (s : Said) → said h (at.0, mi) ≡ Some s → same_sci s.sci at.1 ≡ false
      → timing_of (at, mi) ≡ InTime
  elsewhere at mi s is apart =
      one-voice at mi (Some s) is ∙ ap (λ b. cond (b && near at.0 s) (judged (at.0, mi)) InTime) apart

  pub here : (at : ℕ × Sci) (mi : Mi) (s : Said) → said h (at.0, mi) ≡ Some s → same_sci s.sci at.1 ≡ true
      → timing_of (at, mi) ≡ cond (near at.0 s) (judged (at.0, mi)) InTime
  here at mi s is same =
      one-voice at mi (Some s) is ∙ ap (λ b. cond (b && near at.0 s) (judged (at.0, mi)) InTime) same

  abbrev twice : Option Counts → Timing → Timing → Option Counts
  twice before x y = counted (counted before frame.packet x) frame.packet y

  -- one speaker more, which is of this member
  own-step : (e : Speaker) (es : List Speaker) (m : Member) (before : Option Counts) → IsSorted (e ∷ es)
      → e.0.0 ≡ m.0 → e.1 ≡ m.1
      → counted (counted before frame.packet (timing_of e)) frame.packet (beside_in es m (said h m))
      ≡ counted before frame.packet (beside_in (e ∷ es) m (said h m))
  own-step e es m before sorted group mi = go (said h m) refl
    where
      spoken : (o : Option Said) → said h m ≡ o → said h (e.0.0, e.1) ≡ o
      spoken o is = (λ t. said h (group t, mi t)) ∙ is

      at-once : (s : Said) → said h m ≡ Some s → (b : Bool) → is_at (number_sci_cmp (m.0, s.sci)) e.0 ≡ b
          → twice before (timing_of e) (beside_in es m (Some s)) ≡ counted before frame.packet (cond (is_mi m.1 (cond b (Some e.1) (found es (m.0, s.sci))) && near m.0 s) (judged m) InTime)
      at-once s is true at =
          let place : (m.0, s.sci) ≡ e.0 = exact-number-sci (m.0, s.sci) e.0 (equal (number_sci_cmp (m.0, s.sci) e.0) at) in
          let none : found es (m.0, s.sci) ≡ None = ap (λ (k : ℕ × Sci). found es k) place ∙ once e es sorted in
          let same : same_sci s.sci e.0.1 ≡ true =
          ap (λ (k : ℕ × Sci). same_sci s.sci k.1) (sym place) ∙ sci-itself s.sci in
          let tells : timing_of e ≡ cond (near m.0 s) (judged m) InTime =
          here e.0 e.1 s (spoken (Some s) is) same ∙ (λ t. cond (near (group t) s) (judged (group t, mi t)) InTime) in
          ap (λ (o : Option Mi). twice before (timing_of e) (cond (is_mi m.1 o && near m.0 s) (judged m) InTime)) none
          ∙ ap (counted before frame.packet) tells
          ∙ ap (λ b. counted before frame.packet (cond (b && near m.0 s) (judged m) InTime))
          (sym (ap (λ (x : Mi). same_mi x m.1) mi ∙ mi-itself m.1))
      at-once s is false at =
          let apart : same_sci s.sci e.0.1 ≡ false =
          sym (ap (λ b. b && same_sci s.sci e.0.1) (eq-eqb m.0 e.0.0 (sym group)))
          ∙ sym (number-sci-ties (m.0, s.sci) e.0) ∙ at in
          ap (λ (x : Timing). twice before x (beside_in es m (Some s))) (elsewhere e.0 e.1 s (spoken (Some s) is) apart)

      go : (o : Option Said) → said h m ≡ o
          → twice before (timing_of e) (beside_in es m o) ≡ counted before frame.packet (beside_in (e ∷ es) m o)
      go None is = ap (λ (x : Timing). twice before x InTime) (unheard e.0 e.1 (spoken None is))
      go (Some s) is = at-once s is (is_at (number_sci_cmp (m.0, s.sci)) e.0) refl

  -- one that is not of this member
  other-step : (e : Speaker) (es : List Speaker) (m : Member) → IsSorted (e ∷ es)
      → ((e.0.0 == m.0) && same_mi e.1 m.1) ≡ false
      → beside_in es m (said h m) ≡ beside_in (e ∷ es) m (said h m)
  other-step e es m sorted apart = go (said h m)
    where
      at-once : (s : Said) (b : Bool) → is_at (number_sci_cmp (m.0, s.sci)) e.0 ≡ b
          → cond (is_mi m.1 (found es (m.0, s.sci)) && near m.0 s) (judged m) InTime
          ≡ cond (is_mi m.1 (cond b (Some e.1) (found es (m.0, s.sci))) && near m.0 s) (judged m) InTime
      at-once s true at =
          let place : (m.0, s.sci) ≡ e.0 = exact-number-sci (m.0, s.sci) e.0 (equal (number_sci_cmp (m.0, s.sci) e.0) at) in
          let none : found es (m.0, s.sci) ≡ None = ap (λ (k : ℕ × Sci). found es k) place ∙ once e es sorted in
          let group : (e.0.0 == m.0) ≡ true = eq-eqb e.0.0 m.0 (ap (λ (k : ℕ × Sci). k.0) (sym place)) in
          let silent : same_mi e.1 m.1 ≡ false = ap (λ b. b && same_mi e.1 m.1) (sym group) ∙ apart in
          ap (λ (o : Option Mi). cond (is_mi m.1 o && near m.0 s) (judged m) InTime) none
          ∙ ap (λ b. cond (b && near m.0 s) (judged m) InTime) (sym silent)
      at-once s false at = refl

      go : (o : Option Said) → beside_in es m o ≡ beside_in (e ∷ es) m o
      go None = refl
      go (Some s) = at-once s (is_at (number_sci_cmp (m.0, s.sci)) e.0) refl

  step : (e : Speaker) (es : List Speaker) (before : Option Counts) (p : Pair) → IsSorted (e ∷ es)
      → counted (cond ((frame.key == p.0) && ((e.0.0 == p.1.0) && same_mi e.1 p.1.1))
      (counted before frame.packet (timing_of e)) before) frame.packet (timing_in es p)
      ≡ counted before frame.packet (timing_in (e ∷ es) p)
  step e es before p sorted = go (frame.key == p.0)
    where
      own : (b : Bool) → ((e.0.0 == p.1.0) && same_mi e.1 p.1.1) ≡ b
          → counted (cond b (counted before frame.packet (timing_of e)) before) frame.packet (beside_in es p.1 (said h p.1))
          ≡ counted before frame.packet (beside_in (e ∷ es) p.1 (said h p.1))
      own true is =
          let both = and_parts (e.0.0 == p.1.0) (same_mi e.1 p.1.1) is in
          own-step e es p.1 before sorted (eqb-true e.0.0 p.1.0 both.0) (mi-is e.1 p.1.1 both.1)
      own false is = ap (counted before frame.packet) (other-step e es p.1 sorted is)

      go : (b : Bool) → counted (cond (b && ((e.0.0 == p.1.0) && same_mi e.1 p.1.1))
          (counted before frame.packet (timing_of e)) before) frame.packet (cond b (beside_in es p.1 (said h p.1)) InTime)
          ≡ counted before frame.packet (cond b (beside_in (e ∷ es) p.1 (said h p.1)) InTime)
      go true = own ((e.0.0 == p.1.0) && same_mi e.1 p.1.1) refl
      go false = refl

  nobody : (before : Option Counts) (p : Pair) → before ≡ counted before frame.packet (timing_in [] p)
  nobody before p = go (frame.key == p.0) (said h p.1)
    where
      go : (b : Bool) (o : Option Said) → before ≡ counted before frame.packet (cond b (beside_in [] p.1 o) InTime)
      go true None = refl
      go true (Some s) = refl
      go false o = refl

  walk : (es : List Speaker) → IsSorted es → (before : Pair → Option Counts) (p : Pair)
      → walked timing_of frame before es p ≡ counted (before p) frame.packet (timing_in es p)
  walk [] sorted before p = nobody (before p) p
  walk (e ∷ es) sorted before p =
      walk es (sorted_tail number_sci_cmp e.0 (map (λ (e : Speaker). e.0) es) sorted)
      (told before (frame.key, member_of e) frame.packet (timing_of e)) p
      ∙ ap (λ b. counted (cond b (counted (before p) frame.packet (timing_of e)) (before p)) frame.packet (timing_in es p))
      (pair-ties (frame.key, member_of e) p)
      ∙ step e es (before p) p sorted

  -- all speakers
  pub walked-all : (es : List Speaker) → IsSorted es → ((at : ℕ × Sci) → found es at ≡ speaker h at)
      → (before : Pair → Option Counts) (p : Pair)
      → walked timing_of frame before es p ≡ counted (before p) frame.packet (timing_to h frame p)
  walked-all es sorted speaks before p =
      walk es sorted before p
      ∙ ap (λ (x : Timing). counted (before p) frame.packet (cond (frame.key == p.0) x InTime)) (go (said h p.1))
    where
      go : (o : Option Said) → beside_in es p.1 o ≡ cond (is_beside_by h frame p.1 o) (judged p.1) InTime
      go None = refl
      go (Some s) = ap (λ (o : Option Mi). cond (is_mi p.1.1 o && near p.1.0 s) (judged p.1) InTime) (speaks (p.1.0, s.sci))

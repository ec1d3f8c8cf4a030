-- A frame is late to some speaker just where it is to some member beside it.
use Rattle.std.proofs.Common.{◌≡◌, ◌∙◌, ℕ, Bool, true, false, cond, List, [], ◌∷◌, map, Option, Some, None, refl, sym, ap}
use Rattle.std.specs.Prelude.{◌==◌, ◌&&◌, ◌||◌}
use Rattle.std.specs.List.{list_any}
use Rattle.std.specs.BTreeMap.{is_at}
use Rattle.std.proofs.lemmas.Bool.{and_parts, eq-eqb, eqb-true, or_left, or_right}
use Rattle.std.proofs.lemmas.Map.Keys.{sorted_tail}
use Rattle.lan_base.specs.declared.address.Mi.{Mi}
use Rattle.lan_base.specs.declared.address.Sci.{Sci}
use Rattle.lan_base.specs.Identifiers.{same_mi, same_sci}
use Rattle.member_notes.specs.Mkpdus.{is_of}
use Rattle.use_notes.specs.declared.frame.RightFrame.{RightFrame}
use Rattle.rollover_notes.specs.declared.timing.Timing.{Timing}
use Rattle.rollover_notes.specs.declared.timing.Timing.TheVariants.{InTime}
use Rattle.rollover_notes.specs.Events.{Event, Gave, Spoke, Used}
use Rattle.rollover_notes.specs.Speaking.{Member, Said, is_beside_by, is_mi, members, said, said_of, speaker}
use Rattle.rollover_notes.specs.Timings.{is_late, is_late_frame, timing, timing_beside}
use Rattle.rollover_notes.specs.Standing.{number_sci_cmp}
use Rattle.rollover_notes.specs.inside.Walking.{Speaker, is_late_to, is_voice, member_of}
use Rattle.rollover_notes.proofs.Ties.{equal, exact-number-sci, mi-is, mi-itself, number-sci-ties, same-bool, sci-is, sci-itself}
use Rattle.rollover_notes.proofs.Walks.{IsSorted, found, here, near, once, timing_of}

some-where : (b : Bool) (x : Timing) → is_late (cond b x InTime) ≡ true → (b ≡ true) × (is_late x ≡ true)
some-where true x late = (refl, late)
some-where false x late = absurd (cc late)

-- a member that said something is one of all
among : (h : List Event) (m : Member) (s : Said) (p : Member → Bool) → said h m ≡ Some s → p m ≡ true
    → list_any p (members h) ≡ true
among [] m s p is passes = absurd (cc is)
among (Gave group id key ∷ h) m s p is passes = among h m s p is passes
among (Used frame ∷ h) m s p is passes = among h m s p is passes
among (Spoke x ∷ h) m s p is passes = go (is_of m.0 m.1 x.mkpdu) refl is (among h m s p)
  where
    spoken : Member
    spoken = (x.mkpdu.group, x.mkpdu.mi)

    go : (b : Bool) → is_of m.0 m.1 x.mkpdu ≡ b → cond b (Some (said_of x.nanos x.said)) (said h m) ≡ Some s
        → (said h m ≡ Some s → p m ≡ true → list_any p (members h) ≡ true)
        → (p (x.mkpdu.group, x.mkpdu.mi) || list_any p (members h)) ≡ true
    go true own is later =
        let both = and_parts (x.mkpdu.group == m.0) (same_mi x.mkpdu.mi m.1) own in
        or_left (p (x.mkpdu.group, x.mkpdu.mi)) (list_any p (members h))
        ((λ t. p (eqb-true x.mkpdu.group m.0 both.0 t, mi-is x.mkpdu.mi m.1 both.1 t)) ∙ passes)
    go false own is later = or_right (p (x.mkpdu.group, x.mkpdu.mi)) (list_any p (members h)) (later is passes)

some-passes : {X : Type 0} (p : X → Bool) (xs : List X) → list_any p xs ≡ true → (x : X) × (p x ≡ true)
some-passes {X = X} p [] any = absurd (cc any)
some-passes {X = X} p (x ∷ xs) any = go (p x) refl any (some-passes p xs)
  where
    go : (b : Bool) → p x ≡ b → (b || list_any p xs) ≡ true → (list_any p xs ≡ true → (y : X) × (p y ≡ true))
        → (y : X) × (p y ≡ true)
    go true is any later = (x, is)
    go false is any later = later any

-- one that is found passes
found-passes : (p : Speaker → Bool) (es : List Speaker) (at : ℕ × Sci) (mi : Mi) → found es at ≡ Some mi
    → p (at, mi) ≡ true → list_any p es ≡ true
found-passes p [] at mi is passes = absurd (cc is)
found-passes p (e ∷ es) at mi is passes =
    go (is_at (number_sci_cmp at) e.0) refl is (found-passes p es at mi)
  where
    go : (b : Bool) → is_at (number_sci_cmp at) e.0 ≡ b → cond b (Some e.1) (found es at) ≡ Some mi
        → (found es at ≡ Some mi → p (at, mi) ≡ true → list_any p es ≡ true) → (p e || list_any p es) ≡ true
    go true same is later =
        let place : at ≡ e.0 = exact-number-sci at e.0 (equal (number_sci_cmp at e.0) same) in
        let own : e.1 ≡ mi = cc is in
        or_left (p e) (list_any p es) ((λ t. p (sym place t, own t)) ∙ passes)
    go false same is later = or_right (p e) (list_any p es) (later is passes)

-- one that passes is found
passes-found : (p : Speaker → Bool) (es : List Speaker) → IsSorted es → list_any p es ≡ true
    → (e : Speaker) × ((found es e.0 ≡ Some e.1) × (p e ≡ true))
passes-found p [] sorted any = absurd (cc any)
passes-found p (e ∷ es) sorted any =
    go (p e) refl any (passes-found p es (sorted_tail number_sci_cmp e.0 (map (λ (e : Speaker). e.0) es) sorted))
  where
    itself : is_at (number_sci_cmp e.0) e.0 ≡ true
    itself =
        number-sci-ties e.0 e.0 ∙ ap (λ b. b && same_sci e.0.1 e.0.1) (eq-eqb e.0.0 e.0.0 refl) ∙ sci-itself e.0.1

    later-found : (x : Speaker) → found es x.0 ≡ Some x.1 → (b : Bool) → is_at (number_sci_cmp x.0) e.0 ≡ b
        → cond b (Some e.1) (found es x.0) ≡ Some x.1
    later-found x is false same = is
    later-found x is true same =
        let place : x.0 ≡ e.0 = exact-number-sci x.0 e.0 (equal (number_sci_cmp x.0 e.0) same) in
        absurd (cc (sym is ∙ ap (λ (k : ℕ × Sci). found es k) place ∙ once e es sorted))

    go : (b : Bool) → p e ≡ b → (b || list_any p es) ≡ true
        → (list_any p es ≡ true → (x : Speaker) × ((found es x.0 ≡ Some x.1) × (p x ≡ true)))
        → (x : Speaker) × ((found (e ∷ es) x.0 ≡ Some x.1) × (p x ≡ true))
    go true is any later = (e, (ap (λ b. cond b (Some e.1) (found es e.0)) itself, is))
    go false is any later =
        let x = later any in
        (x.0, (later-found x.0 x.1.0 (is_at (number_sci_cmp x.0.0) e.0) refl, x.1.1))

module _ (h : List Event) (frame : RightFrame) (es : List Speaker) (sorted : IsSorted es)
    (speaks : (at : ℕ × Sci) → found es at ≡ speaker h at) where
  abbrev to_member : Member → Bool
  to_member m = is_late (timing_beside h frame m)

  abbrev to_speaker : Speaker → Bool
  to_speaker e = is_late (timing_of h frame e)

  -- late to a speaker
  one-way : list_any to_speaker es ≡ true → list_any to_member (members h) ≡ true
  one-way any = let e = passes-found to_speaker es sorted any in go e.0 e.1.0 e.1.1 (said h (member_of e.0)) refl
    where
      at : (e : Speaker) → found es e.0 ≡ Some e.1 → (o : Option Said) → said h (member_of e) ≡ o
          → is_voice (said h) frame e.0 o ≡ true → is_late (timing h frame (member_of e)) ≡ true
          → list_any to_member (members h) ≡ true
      at e is None words voice late = absurd (cc voice)
      at e is (Some s) words voice late =
          let both = and_parts (same_sci s.sci e.0.1) (near h frame e.0.0 s) voice in
          let spoken : speaker h (e.0.0, s.sci) ≡ Some e.1 =
          ap (λ (sci : Sci). speaker h (e.0.0, sci)) (sci-is s.sci e.0.1 both.0) ∙ sym (speaks e.0) ∙ is in
          among h (member_of e) s to_member words
          (ap (λ (o : Option Said). is_late (cond (is_beside_by h frame (member_of e) o) (timing h frame (member_of e)) InTime)) words
          ∙ ap (λ (o : Option Mi). is_late (cond (is_mi e.1 o && near h frame e.0.0 s) (timing h frame (member_of e)) InTime)) spoken
          ∙ (λ t. is_late (cond (mi-itself e.1 t && both.1 t) (timing h frame (member_of e)) InTime))
          ∙ late)

      go : (e : Speaker) → found es e.0 ≡ Some e.1 → to_speaker e ≡ true → (o : Option Said) → said h (member_of e) ≡ o
          → list_any to_member (members h) ≡ true
      go e is late o words =
          let heard : is_late (cond (is_voice (said h) frame e.0 o) (timing h frame (member_of e)) InTime) ≡ true =
          ap (λ (o : Option Said). is_late (cond (is_voice (said h) frame e.0 o) (timing h frame (member_of e)) InTime)) (sym words)
          ∙ late in
          let both = some-where (is_voice (said h) frame e.0 o) (timing h frame (member_of e)) heard in
          at e is o words both.0 both.1

  -- late to a member
  other-way : list_any to_member (members h) ≡ true → list_any to_speaker es ≡ true
  other-way any = let m = some-passes to_member (members h) any in go m.0 m.1 (said h m.0) refl
    where
      at : (m : Member) (s : Said) → said h m ≡ Some s → (o : Option Mi) → speaker h (m.0, s.sci) ≡ o
          → is_mi m.1 o ≡ true → near h frame m.0 s ≡ true → is_late (timing h frame m) ≡ true
          → list_any to_speaker es ≡ true
      at m s words None spoken own close late = absurd (cc own)
      at m s words (Some mi) spoken own close late =
          found-passes to_speaker es (m.0, s.sci) m.1
          (speaks (m.0, s.sci) ∙ spoken ∙ ap (λ (x : Mi). Some x) (mi-is mi m.1 own))
          (ap is_late (here h frame (m.0, s.sci) m.1 s words (sci-itself s.sci))
          ∙ ap (λ b. is_late (cond b (timing h frame m) InTime)) close ∙ late)

      beside : (m : Member) (o : Option Said) → said h m ≡ o → is_beside_by h frame m o ≡ true
          → is_late (timing h frame m) ≡ true → list_any to_speaker es ≡ true
      beside m None words is late = absurd (cc is)
      beside m (Some s) words is late =
          let both = and_parts (is_mi m.1 (speaker h (m.0, s.sci))) (near h frame m.0 s) is in
          at m s words (speaker h (m.0, s.sci)) refl both.0 both.1 late

      go : (m : Member) → to_member m ≡ true → (o : Option Said) → said h m ≡ o → list_any to_speaker es ≡ true
      go m late o words =
          let heard : is_late (cond (is_beside_by h frame m o) (timing h frame m) InTime) ≡ true =
          ap (λ (o : Option Said). is_late (cond (is_beside_by h frame m o) (timing h frame m) InTime)) (sym words) ∙ late in
          let both = some-where (is_beside_by h frame m o) (timing h frame m) heard in
          beside m o words both.0 both.1

  pub late-to-all : is_late_to (timing_of h frame) es ≡ is_late_frame h frame
  late-to-all = same-bool (list_any to_speaker es) (list_any to_member (members h)) one-way other-way

-- A measure of a life that no event makes fall: what was once told under a member identifier is never above that
-- of the life that has it.
use Rattle.std.proofs.Common.{◌≡◌, ◌≢◌, ◌≤◌, refl, sym, ap, ◌∙◌, subst, inl, inr, ℕ, List, [], ◌∷◌, ◌++◌, map}
use Rattle.std.proofs.Common.{Some, cond, arith}
use Rattle.std.specs.Prelude.{option_map}
use Rattle.std.proofs.lemmas.Bool.{eq-eqb}
use Rattle.lan_base.specs.Differing.{AllDiffer}
use Rattle.lan_base.specs.declared.address.Mi.{Mi}
use Rattle.lan_base.specs.declared.frame.UserFrame.{UserFrame}
use Rattle.mkpdu_codec.specs.declared.announcement.Announcement.{Announcement}
use Rattle.mka_station.specs.Hearing.{hear_turn}
use Rattle.lan_core.specs.declared.event.Event.TheVariants as events
use Rattle.lan_core.specs.declared.fact.Fact.{Fact}
use Rattle.lan_core.specs.declared.fact.Fact.TheVariants as facts
use Rattle.lan_core.specs.declared.settings.Settings.{Settings}
use Rattle.lan_core.specs.Run.{Run, Happening, happened}
use Rattle.lan_core.specs.Ledgers.{Birth, births, born, gather}
use Rattle.lan_core.specs.Lives.{Life, life, lived, lived_ticking, sak_in, turn_at_tick}
use Rattle.lan_core.specs.Fresh.{IsFresh}
use Rattle.lan_core.specs.Legal.{IsStep}
use Rattle.group_safety.proofs.Public.{In, in-from_map, in-gathered, in-later, in-map, differs-in, gather-behind}
use Rattle.group_safety.proofs.Public.{Part, part, known, holds, Inv, book, current, current-apart, in-mis, mis}
use Rattle.group_safety.proofs.Public.{some-same, life-next}
use Rattle.group_safety.proofs.Public as parts
use Rattle.clean_audits.proofs.Gifts.{IsSound}
use Rattle.clean_audits.proofs.GivenKeys.{IsTick}

-- ---- measures

-- it falls neither at a tick nor where something is heard
pub record Rises (measure : Life → ℕ) : Type 0 where
  pub ticking : (settings : Settings) (s next : ℕ) (r : Run) (f : List Fact) (l : Life)
      → measure l ≤ measure (lived l (turn_at_tick settings s r l next (sak_in f)))
  pub hearing : (l : Life) (a : Announcement) → measure l ≤ measure (lived l (hear_turn l.member a l.past))

-- under a member identifier that a life has, a number is not above that life's measure
pub record IsBelow (measure : Life → ℕ) (settings : Settings) (r : Run) (mi : Mi) (n : ℕ) : Type 0 where
  pub begun : In mi (mis (births r))
  pub below : (s : ℕ) (l : Life) → life settings s r ≡ Some l → l.member.mi ≡ mi → n ≤ measure l

-- ---- later

mis-later : (x : Happening) (r : Run) (mi : Mi) → In mi (mis (births r)) → In mi (mis (births (x ∷ r)))
unfolding births
mis-later x r mi there =
    let b = in-from_map (λ (b : Birth). b.mi) (births r) mi there in
    subst (λ w. In w (mis (births (x ∷ r)))) (sym b.2)
    (in-map (λ (b : Birth). b.mi) (births (x ∷ r)) b.0 (in-later born x.facts (births r) b.0 b.1))

-- a life that begins has another identifier than those before
apart-parts : {A B : Type 0} (f : A → B) (xs ys : List A) (a : A) (b : B) → AllDiffer (map f (xs ++ ys))
    → In a xs → In b (map f ys) → f a ≢ b
apart-parts f [] ys a b differ here there = elim here [ ]
apart-parts {A} {B} f (x ∷ xs) ys a b differ (inl same) there =
    λ e. differs-in (f x) b (map f (xs ++ ys)) differ.0 (behind xs) (ap f (sym same) ∙ e)
  where
    behind : (zs : List A) → In b (map f (zs ++ ys))
    behind [] = there
    behind (z ∷ zs) = inr (behind zs)
apart-parts f (x ∷ xs) ys a b differ (inr here) there = apart-parts f xs ys a b differ.1 here there

born-new : (x : Happening) (r : Run) (s : ℕ) (mi other : Mi) → IsFresh (x ∷ r)
    → In (facts.Life s mi) x.facts → In other (mis (births r)) → mi ≢ other
unfolding births
born-new x r s mi other fresh here there =
    apart-parts (λ (b : Birth). b.mi) (gather born x.facts []) (births r)
    (record { station = s; mi = mi }) other
    (subst (λ bs. AllDiffer (map (λ (b : Birth). b.mi) bs)) (gather-behind born x.facts (births r)) fresh.mis)
    (in-gathered born x.facts [] (facts.Life s mi) (record { station = s; mi = mi }) here refl) there

-- an event takes none of it
pub below-later : (measure : Life → ℕ) → Rises measure → (settings : Settings) (users : List UserFrame) (x : Happening) (r : Run)
    (mi : Mi) (n : ℕ) → IsStep settings users x r → IsFresh (x ∷ r) → IsBelow measure settings r mi n
    → IsBelow measure settings (x ∷ r) mi n
below-later measure rises settings users x r mi n step fresh it = record {
  begun = mis-later x r mi it.begun;
  below = λ s l living same. go s l living same (part settings users s x r step);
}
  where
    go : (s : ℕ) (l : Life) → life settings s (x ∷ r) ≡ Some l → l.member.mi ≡ mi
        → Part settings s r x.event x.facts (life settings s (x ∷ r)) → n ≤ measure l
    go s l living same (parts.same after none) = it.below s l (sym after ∙ living) same
    go s l living same (parts.ticks next old ev before after) =
        let is : lived old (turn_at_tick settings s r old next (sak_in x.facts)) ≡ l =
        some-same (sym after ∙ living) in
        let less = it.below s old before (ap (λ (w : Life). w.member.mi) is ∙ same) in
        let more = rises.ticking settings s next r x.facts old in
        subst (λ (w : Life). n ≤ measure w) is (omega (arith, less, more))
    go s l living same (parts.hears number octets old a came before plain judged after) =
        let is : lived old (hear_turn old.member a old.past) ≡ l = some-same (sym after ∙ living) in
        let less = it.below s old before (ap (λ (w : Life). w.member.mi) is ∙ same) in
        let more = rises.hearing old a in
        subst (λ (w : Life). n ≤ measure w) is (omega (arith, less, more))
    go s l living same (parts.born new none birth after shown) =
        let is : new ≡ l = some-same (sym after ∙ living) in
        absurd (born-new x r s new.member.mi mi fresh shown it.begun
        (ap (λ (w : Life). w.member.mi) is ∙ same))

-- ---- now

-- the life of a station has begun there
life-begun : (settings : Settings) (users : List UserFrame) (r : Run) (s : ℕ) (l : Life)
    → IsSound settings users r → life settings s r ≡ Some l
    → current s (births r) ≡ Some l.member.mi
life-begun settings users r s l sound living =
    let k = known settings users r sound.stepped sound.unforged in
    let v : Inv (book k.changes) = holds k.changes k.allowed
    (subst (λ bs. AllDiffer (mis bs)) (sym k.shows.births) sound.fresh.mis) in
    subst (λ bs. current s bs ≡ Some l.member.mi) k.shows.births
    (v.lives s _ (k.shows.lives s l living)).begun

-- the life of a station after it ticked
ticked-life : (settings : Settings) (s next : ℕ) (f : List Fact) (r : Run) (l : Life)
    → life settings s r ≡ Some l
    → life settings s (happened (events.Tick s next) f ∷ r)
    ≡ Some (lived l (turn_at_tick settings s r l next (sak_in f)))
ticked-life settings s next f r l living =
    life-next settings s (happened (events.Tick s next) f) r
    ∙ ap (λ b. cond b (option_map (lived_ticking settings s r next (sak_in f)) (life settings s r))
    (life settings s r)) (eq-eqb s s refl)
    ∙ ap (option_map (lived_ticking settings s r next (sak_in f))) living

-- a number that a life does not pass when it ticks
pub below-now : (measure : Life → ℕ) (settings : Settings) (users : List UserFrame) (s next : ℕ) (f : List Fact) (r : Run)
    (l : Life) (mi : Mi) (n : ℕ) → IsTick settings users s next f r l → mi ≡ l.member.mi
    → n ≤ measure (lived l (turn_at_tick settings s r l next (sak_in f)))
    → IsBelow measure settings (happened (events.Tick s next) f ∷ r) mi n
below-now measure settings users s next f r l mi n t is less = record {
  begun = subst (λ w. In w (mis (births (x ∷ r)))) (sym is) (in-mis s l.member.mi (births (x ∷ r)) here);
  below = λ u m living same. at u m living (current-apart s u l.member.mi (births (x ∷ r)) t.fresh.mis here
      (life-begun settings users (x ∷ r) u m sound living ∙ ap (λ w. Some w) (same ∙ is)));
}
  where
    x : Happening
    x = happened (events.Tick s next) f

    sound : IsSound settings users (x ∷ r)
    sound = record { stepped = t.stepped; fresh = t.fresh; unforged = t.unforged }

    now : Life
    now = lived l (turn_at_tick settings s r l next (sak_in f))

    here : current s (births (x ∷ r)) ≡ Some l.member.mi
    here = life-begun settings users (x ∷ r) s now sound (ticked-life settings s next f r l t.living)

    at : (u : ℕ) (m : Life) → life settings u (x ∷ r) ≡ Some m → s ≡ u → n ≤ measure m
    at u m living same =
        let mine : life settings s (x ∷ r) ≡ Some m = subst (λ w. life settings w (x ∷ r) ≡ Some m) (sym same) living in
        let one : now ≡ m = some-same (sym (ticked-life settings s next f r l t.living) ∙ mine) in
        subst (λ (w : Life). n ≤ measure w) one less

-- The names after a line, and what the line says under them.
use Rattle.std.proofs.Common.{◌≡◌, ◌≢◌, ◌<◌, ◌≤◌, ◌-◌, ◌∙◌, inl, inr, ℕ, zero, suc, Bool, true, false, cond, List, [], ◌∷◌, ◌++◌, length, map, take, get_or, refl, sym, ap, subst, arith}
use Rattle.std.specs.Prelude.{◌⊎◌, ◌↔◌, ◌==◌, All, nat_lt, codes, Option, Some, None, is_some, Result, Ok, Err, IfOk, IfErr, OnErr}
use Rattle.std.specs.List.{slice_split, onto_first}
use Rattle.std.proofs.lemmas.Bool.{lt-ltb, ltb-true}
use Rattle.std.proofs.lemmas.List.{length-append, take-append-le, take_all}
use Rattle.std.proofs.lemmas.List.Splits.{slice_split-cons_yes, slice_split-cons_no}
use Rattle.std.proofs.lemmas.List.Elements.{All-head, All-tail, All-push}
use Rattle.lan_base.specs.declared.address.Mi.{Mi}
use Rattle.lan_base.specs.Differing.{AllDiffer, DiffersFrom}
use Rattle.lan_base.specs.Name.{IsName, is_name}
use Rattle.lan_core.specs.declared.fact.Fact.{Fact}
use Rattle.lan_core.specs.declared.fact.Fact.TheVariants.{Life}
use Rattle.trace_text.specs.Words.{is_word}
use Rattle.transcript.specs.declared.fault.FactError.{FactError}
use Rattle.transcript.specs.declared.fault.FactError.TheVariants.{Unread, Memory}
use Rattle.transcript.specs.Words.{array, words, spelled}
use Rattle.transcript.specs.Rendering.{Says, AreNames, IsOfFrame}
use Rattle.transcript.specs.Naming.{Reads, IsNaming, most_named}
use Rattle.transcript.specs.inside.Naming.{name_of, name_in, begins_as_life, grown_by, Answered}
use Rattle.transcript.specs.inside.Reading.{member, says as says_it, part, and_then, kept_if, after, parted, taken, ended, member_of, station_of, is_space, along, fact_tree, fact_in}
use Rattle.transcript.specs.inside.Taking.{words_behind, Answers, IsForFrame}
use Rattle.transcript.proofs.Said.{steps, kept, the_word, same_some, station_tells}
use Rattle.transcript.proofs.Told.{station_said}
use Rattle.transcript.proofs.ReadBack.{told, some_fact, of_frame}
use Rattle.transcript.proofs.Splitting.{first_of, rest_of, first_word}
use Rattle.transcript.proofs.Texts.{line_words, line_said}

-- ---- one name more

last-there : (names : List (List ℕ)) (name : List ℕ)
    → get_or (names ++ name ∷ []) (length names) [] ≡ name
last-there [] name = refl
last-there (other ∷ names) name = last-there names name

differs-more : (first : List ℕ) (others : List (List ℕ)) (last : List ℕ) → DiffersFrom first others
    → first ≢ last → DiffersFrom first (others ++ last ∷ [])
differs-more first [] last differs other = (other, tt)
differs-more first (next ∷ others) last differs other =
    (differs.0, differs-more first others last differs.1 other)

differ-more : (names : List (List ℕ)) (last : List ℕ) → AllDiffer names
    → All (λ other. other ≢ last) names → AllDiffer (names ++ last ∷ [])
differ-more [] last differ new = (tt, tt)
differ-more (name ∷ names) last differ new = (
  differs-more name names last differ.0 (All-head (λ other. other ≢ last) name names new),
  differ-more names last differ.1 (All-tail (λ other. other ≢ last) name names new),
)

pub are-more : (names : List (List ℕ)) (name : List ℕ) → AreNames names → IsName name
    → All (λ other. other ≢ name) names → AreNames (names ++ name ∷ [])
are-more names name are is new =
    (All-push IsName names name are.0 is, differ-more names name are.1 new)

-- a name that is none of these is nowhere among them
unknown : (names : List (List ℕ)) (name : List ℕ) → All (λ other. other ≢ name) names
    → station_of names name ≡ None
unknown names name new = go (station_of names name) refl
  where
    go : (o : Option ℕ) → station_of names name ≡ o → o ≡ None
    go None e = refl
    go (Some s) e =
        let t = station_tells names name s e in
        absurd (new s [] t.fits.0 t.spells)

got-any : (names : List (List ℕ)) (k : ℕ) (d : List ℕ) → k < length names
    → get_or names k d ≡ get_or names k []
got-any [] k d less = absurd (omega (arith, less))
got-any (name ∷ names) zero d less = refl
got-any (name ∷ names) (suc k) d less = got-any names k d (omega (arith, less))

pub is-new : (names : List (List ℕ)) (name : List ℕ) → AllDiffer names → length names ≤ most_named
    → station_of names name ≡ None → All (λ other. other ≢ name) names
is-new names name differ few none = λ k d less same.
    let there = station_said names k differ (less, omega (arith, less, few)) in
    let here : get_or names k [] ≡ name = sym (got-any names k d less) ∙ same in
    cc (sym none ∙ ap (station_of names) (sym here) ∙ there)

-- ---- the words of a line that names a station

parted-is : (ws : List (List ℕ)) (x : List ℕ × List (List ℕ)) → parted ws ≡ Some x
    → ws ≡ x.0 ∷ x.1
parted-is [] x e = absurd (cc e)
parted-is (w ∷ ws) x e = ap (λ (p : List ℕ × List (List ℕ)). p.0 ∷ p.1) (same_some (w, ws) x e)

-- the words of such a line
record IsLifeOf (ws : List (List ℕ)) (name : List ℕ) : Type 0 where
  others : List (List ℕ)
  whole : ws ≡ codes "life" ∷ name ∷ others
  is : IsName name

life-of : (ws : List (List ℕ)) (name : List ℕ) → name_of ws ≡ Some name → IsLifeOf ws name
life-of ws name e =
    let a = steps (after (codes "life") ws)
    (λ others. and_then (parted others) (λ x. kept_if (is_name x.0) x.0)) name e in
    let b = steps (parted ws) (λ x. kept_if (is_word x.0 (codes "life")) x.1) a.0 a.1 in
    let k = kept (is_word b.0.0 (codes "life")) b.0.1 a.0 b.2 in
    let c = steps (parted a.0) (λ x. kept_if (is_name x.0) x.0) name a.2 in
    let l = kept (is_name c.0.0) c.0.0 name c.2 in
    let first : b.0.0 ≡ codes "life" = the_word b.0.0 (codes "life") k.0 in
    let rest : a.0 ≡ name ∷ c.0.1 = parted-is a.0 c.0 c.1 ∙ ap (λ n. n ∷ c.0.1) l.1 in
    record {
      others = c.0.1;
      whole = parted-is ws b.0 b.1 ∙ (λ t. first t ∷ k.1 t) ∙ ap (λ ws. codes "life" ∷ ws) rest;
      is = subst IsName l.1 l.0;
    }

-- what a `life` line says, given the place that its second word names
abbrev life_along : List (List ℕ) → List (List ℕ) → Option ℕ → Option Fact
life_along names others o =
    and_then {A = ℕ × List (List ℕ)}
    (and_then {A = ℕ} {B = ℕ × List (List ℕ)} o (λ y. Some (y, others)))
    (λ x. along names (part member (λ mi. says_it (Life x.0 mi))) x.1)

-- a station that is not known says nothing
unsaid : (names : List (List ℕ)) (name : List ℕ) (others : List (List ℕ))
    → station_of names name ≡ None → along names fact_tree (codes "life" ∷ name ∷ others) ≡ None
unsaid names name others none =
    ap (life_along names others) none

ended-is : (fact other : Fact) (ws : List (List ℕ)) → ended fact ws ≡ Some other → fact ≡ other
ended-is fact other [] e = same_some fact other e
ended-is fact other (w ∷ ws) e = absurd (cc e)

-- a station that is known says its life
said : (names : List (List ℕ)) (name : List ℕ) (others : List (List ℕ)) (s : ℕ) (fact : Fact)
    → station_of names name ≡ Some s
    → along names fact_tree (codes "life" ∷ name ∷ others) ≡ Some fact
    → (mi : Mi) × (fact ≡ Life s mi)
said names name others s fact known e =
    let at : and_then (taken member_of others) (λ x. ended (Life s x.0) x.1) ≡ Some fact =
    sym (ap (life_along names others) known) ∙ e in
    let r = steps (taken member_of others) (λ x. ended (Life s x.0) x.1) fact at in
    (r.0.0, sym (ended-is (Life s r.0.0) fact r.0.1 r.2))

-- ---- the names after a line

-- what a line reads as, by the names after it
pub record IsReading (names : List (List ℕ)) (line : List ℕ) (then : List (List ℕ)) (fact : Fact) :
    Type 0 where
  pub grown : grown_by names (name_in line) ≡ Some then
  pub reads : fact_in then line ≡ Some fact

known-grown : (names : List (List ℕ)) (line : List ℕ) (fact : Fact) → fact_in names line ≡ Some fact
    → (o : Option (List ℕ)) → name_in line ≡ o → grown_by names o ≡ Some names
known-grown names line fact reads None e = refl
known-grown names line fact reads (Some name) e = go (station_of names name) refl
  where
    shape : IsLifeOf (slice_split is_space line) name
    shape = life-of (slice_split is_space line) name e

    go : (o : Option ℕ) → station_of names name ≡ o
        → cond (is_some o) (Some names) (kept_if (nat_lt (length names) most_named) (names ++ name ∷ []))
        ≡ Some names
    go (Some s) f = refl
    go None f =
        let none : None ≡ Some fact =
        sym (ap (along names fact_tree) shape.whole ∙ unsaid names name shape.others f) ∙ reads in
        absurd (cc none)

pub reading-of : (names : List (List ℕ)) (line : List ℕ) (then : List (List ℕ)) (fact : Fact)
    → AreNames names → Reads names line then fact → IsReading names line then fact
reading-of names octets then fact are (says, inl same) =
    let here = subst (λ ns. Says ns octets fact) same says in
    let reads = told names octets fact are here in record {
      grown = known-grown names octets fact reads (name_in octets) refl ∙ ap Some (sym same);
      reads = subst (λ ns. fact_in ns octets ≡ Some fact) (sym same) reads;
    }
reading-of names octets then fact are (says, inr new) =
    let n = length names in
    let after = names ++ new.name ∷ [] in
    let are_after : AreNames after = are-more names new.name are new.well_formed new.new in
    let says_after : Says after octets fact = subst (λ ns. Says ns octets fact) new.grown says in
    let says_life : Says after octets (Life n new.mi) = subst (λ f. Says after octets f) new.life says_after in
    let spoken : slice_split is_space octets ≡ map (spelled after) (words (Life n new.mi)) =
    ap (slice_split is_space) (sym says_life.1) ∙ line_words after (Life n new.mi) are_after.0 says_life.0 in
    let named : slice_split is_space octets ≡ codes "life" ∷ new.name ∷ spelled after (array 12 new.mi.0) ∷ [] =
    spoken ∙ ap (λ w. codes "life" ∷ w ∷ spelled after (array 12 new.mi.0) ∷ []) (last-there names new.name) in
    let found : name_in octets ≡ Some new.name =
    ap name_of named ∙ ap (λ b. kept_if b new.name) new.well_formed in
    let none = unknown names new.name new.new in
    let grown : grown_by names (Some new.name) ≡ Some after =
    ap (λ o. cond (is_some o) (Some names) (kept_if (nat_lt n most_named) after)) none
    ∙ ap (λ b. kept_if b after) (lt-ltb n most_named new.room) in
    record {
      grown = ap (grown_by names) found ∙ grown ∙ ap Some (sym new.grown);
      reads = subst (λ ns. fact_in ns octets ≡ Some fact) (sym new.grown)
          (told after octets fact are_after says_after);
    }

-- a line is read as one fact, under names that follow from it
pub one-fact : (names : List (List ℕ)) (line : List ℕ) (after then : List (List ℕ)) (this that : Fact)
    → AreNames names → Reads names line after this → Reads names line then that
    → (after ≡ then) × (this ≡ that)
one-fact names line after then this that are reads again =
    let a = reading-of names line after this are reads in
    let b = reading-of names line then that are again in
    let same : after ≡ then = some-names (sym a.grown ∙ b.grown) in
    (same, same_some this that (sym a.reads ∙ ap (λ ns. fact_in ns line) same ∙ b.reads))
  where
    some-names : {these those : List (List ℕ)} → Some these ≡ Some those → these ≡ those
    some-names e = cc e

pub are-after : (names : List (List ℕ)) (line : List ℕ) (after : List (List ℕ)) (fact : Fact)
    → AreNames names → Reads names line after fact → AreNames after
are-after names line after fact are (says, inl same) = subst AreNames (sym same) are
are-after names line after fact are (says, inr new) =
    subst AreNames (sym new.grown) (are-more names new.name are new.well_formed new.new)

pub of-reading : (names : List (List ℕ)) (line : List ℕ) (then : List (List ℕ)) (fact : Fact)
    → AreNames names → length names ≤ most_named → grown_by names (name_in line) ≡ Some then
    → fact_in then line ≡ Some fact → Reads names line then fact
of-reading names octets then fact are few grown reads =
    (line_said then octets fact reads, by-name (name_in octets) refl grown)
  where
    by-name : (o : Option (List ℕ)) → name_in octets ≡ o → grown_by names o ≡ Some then
        → (then ≡ names) ⊎ IsNaming names then fact
    by-name None e g = inl (sym (some-then g))
      where
        some-then : {A : Type 0} {a b : A} → Some a ≡ Some b → a ≡ b
        some-then f = cc f
    by-name (Some name) e g = by-place (station_of names name) refl g
      where
        shape : IsLifeOf (slice_split is_space octets) name
        shape = life-of (slice_split is_space octets) name e

        some-then : {A : Type 0} {a b : A} → Some a ≡ Some b → a ≡ b
        some-then f = cc f

        by-place : (o : Option ℕ) → station_of names name ≡ o
            → cond (is_some o) (Some names) (kept_if (nat_lt (length names) most_named) (names ++ name ∷ []))
            ≡ Some then
            → (then ≡ names) ⊎ IsNaming names then fact
        by-place (Some s) f g = inl (sym (some-then g))
        by-place None f g =
            let k = kept (nat_lt (length names) most_named) (names ++ name ∷ []) then g in
            let after = names ++ name ∷ [] in
            let new = is-new names name are.1 few f in
            let differ = differ-more names name are.1 new in
            let count = length-append names (name ∷ []) in
            let less : length names < most_named = ltb-true (length names) most_named k.0 in
            let here : station_of after name ≡ Some (length names) =
            ap (station_of after) (sym (last-there names name))
            ∙ station_said after (length names) differ (omega (arith, count), omega (arith, less)) in
            let life = said after name shape.others (length names) fact here
            (ap (along after fact_tree) (sym shape.whole)
            ∙ subst (λ ns. fact_in ns octets ≡ Some fact) (sym k.1) reads) in
            inr (record {
              name = name;
              mi = life.0;
              grown = sym k.1;
              well_formed = shape.is;
              new = new;
              room = less;
              life = life.1;
            })

-- ---- what is answered

-- the answer of a fault
abbrev refused_as : FactError → Result Fact FactError
refused_as fault = Err fault

module _ (names : List (List ℕ)) (octets : List ℕ) (now : List (List ℕ)) (are : AreNames names)
    (few : length names ≤ most_named) where
  pub read : (r : Result Fact FactError)
      → Answered names octets now r (grown_by names (name_in octets))
      → IfOk r (λ fact. Reads names octets now fact)
  read (Err fault) is = tt
  read (Ok fact) is = go (grown_by names (name_in octets)) refl is
    where
      go : (o : Option (List (List ℕ))) → grown_by names (name_in octets) ≡ o
          → Answered names octets now (Ok fact) o → Reads names octets now fact
      go None e f = absurd (cc f.0)
      go (Some then) e f =
          subst (λ ns. Reads names octets ns fact) (sym f.0)
          (of-reading names octets then fact are few e f.1)

  pub found : (r : Result Fact FactError)
      → Answered names octets now r (grown_by names (name_in octets))
      → (then : List (List ℕ)) (fact : Fact) → Reads names octets then fact
      → IfOk r (λ answer. (answer ≡ fact) × (now ≡ then))
  found (Err fault) is then fact reads = tt
  found (Ok answer) is then fact reads =
      let w = reading-of names octets then fact are reads in
      let f = subst (λ o. Answered names octets now (Ok answer) o) w.grown is in
      (same_some answer fact (sym f.1 ∙ w.reads), f.0)

  pub unread : (r : Result Fact FactError)
      → Answered names octets now r (grown_by names (name_in octets))
      → (r ≡ Err Unread) ↔ ((then : List (List ℕ)) (fact : Fact) → Reads names octets then fact → ⊥)
  unread r is = (
    λ e then fact reads.
        let w = reading-of names octets then fact are reads in
        let f = subst (λ o. Answered names octets now (Err Unread) o) w.grown
        (subst (λ r. Answered names octets now r (grown_by names (name_in octets))) e is) in
        none f.1 w.reads,
    λ nothing. only r is nothing,
  )
    where
      none : {o : Option Fact} {fact : Fact} → Answers {X = Fact} {Y = Fact} (λ x. x) (Err Unread) o
          → o ≡ Some fact → ⊥
      none (inl here) e = cc (here.1, e)
      none (inr wanting) e = cc wanting.0

      only : (r : Result Fact FactError)
          → Answered names octets now r (grown_by names (name_in octets))
          → ((then : List (List ℕ)) (fact : Fact) → Reads names octets then fact → ⊥)
          → r ≡ Err Unread
      only (Ok answer) is nothing = absurd (nothing now answer (read (Ok answer) is))
      only (Err fault) is nothing = go (grown_by names (name_in octets)) refl is
        where
          go : (o : Option (List (List ℕ))) → grown_by names (name_in octets) ≡ o
              → Answered names octets now (Err fault) o → refused_as fault ≡ Err Unread
          go None e f = f.0
          go (Some then) e f = elim f.1 [
            | inl here ↦ ap refused_as here.0
            | inr wanting ↦ let p = some_fact (fact_in then octets) wanting.1 in
                absurd (nothing then p.0 (of-reading names octets then p.0 are few e p.1))
          ]

  pub memory : (r : Result Fact FactError)
      → Answered names octets now r (grown_by names (name_in octets)) → r ≡ Err Memory
      → (then : List (List ℕ)) × (fact : Fact) × Reads names octets then fact
  memory r is e = go (grown_by names (name_in octets)) refl
      (subst (λ r. Answered names octets now r (grown_by names (name_in octets))) e is)
    where
      go : (o : Option (List (List ℕ))) → grown_by names (name_in octets) ≡ o
          → Answered names octets now (Err Memory) o
          → (then : List (List ℕ)) × (fact : Fact) × Reads names octets then fact
      go None g f = absurd (cc f.0)
      go (Some then) g f = elim f.1 [
        | inl here ↦ absurd (cc here.0)
        | inr wanting ↦ let p = some_fact (fact_in then octets) wanting.1 in
            (then, p.0, of-reading names octets then p.0 are few g p.1)
      ]

  pub frames : (r : Result Fact FactError)
      → Answered names octets now r (grown_by names (name_in octets)) → r ≡ Err Memory
      → (then : List (List ℕ)) (fact : Fact) → Reads names octets then fact → IsOfFrame fact
  frames r is e then fact reads =
      let w = reading-of names octets then fact are reads in
      let f = subst (λ o. Answered names octets now (Err Memory) o) w.grown
      (subst (λ r. Answered names octets now r (grown_by names (name_in octets))) e is) in
      of_frame (fact_in then octets) fact Memory w.reads refl f.2

  pub kept-names : (r : Result Fact FactError)
      → Answered names octets now r (grown_by names (name_in octets)) → OnErr r (now ≡ names)
  kept-names (Ok fact) is = tt
  kept-names (Err fault) is = go (grown_by names (name_in octets)) is
    where
      go : (o : Option (List (List ℕ))) → Answered names octets now (Err fault) o → now ≡ names
      go None f = f.1
      go (Some then) f = f.0

-- ---- what the code answers

pub answered-known : (names : List (List ℕ)) (octets : List ℕ) (r : Result Fact FactError)
    → Answers {X = Fact} {Y = Fact} (λ x. x) r (fact_in names octets)
    → IfErr r (λ fault. IsForFrame fault (fact_in names octets))
    → Answered names octets names r (Some names)
answered-known names octets (Ok fact) is frame = (refl, is)
answered-known names octets (Err fault) is frame = (refl, is, frame)

pub known-by : (names : List (List ℕ)) (name : List ℕ) (o : Option ℕ) → o ≡ station_of names name
    → is_some o ≡ true → grown_by names (Some name) ≡ Some names
known-by names name o is some =
    ap (λ b. cond b (Some names) (kept_if (nat_lt (length names) most_named) (names ++ name ∷ [])))
    (ap is_some (sym is) ∙ some)

pub answered-under : (names : List (List ℕ)) (octets : List ℕ) (now : List (List ℕ))
    (r : Result Fact FactError) (o p : Option (List (List ℕ))) → p ≡ o
    → Answered names octets now r o → Answered names octets now r p
answered-under names octets now r o p same is =
    subst (λ o. Answered names octets now r o) (sym same) is

last-gone : (names more : List (List ℕ)) (name : List ℕ) (count : ℕ) → more ≡ names ++ name ∷ []
    → length more ≡ count → take (count - 1) more ≡ names
last-gone names more name count grown is =
    let one = length-append names (name ∷ []) in
    let whole : length more ≡ length (names ++ name ∷ []) = ap length grown in
    let all : count - 1 ≡ length names = omega (arith, one, whole, is) in
    ap (take (count - 1)) grown
    ∙ take-append-le (count - 1) names (name ∷ []) (omega (arith, all))
    ∙ take_all (count - 1) names (omega (arith, all))

-- a line under one name more: it is read, or the name is taken back
pub answered-more : (names items after shown : List (List ℕ)) (octets name : List ℕ) (fact : Fact)
    → items ≡ names → after ≡ items ++ name ∷ [] → shown ≡ after
    → fact_in shown octets ≡ Some fact
    → Answered names octets after (Ok fact) (Some (names ++ name ∷ []))
answered-more names items after shown octets name fact same grown shows is =
    let e : after ≡ names ++ name ∷ [] = grown ∙ ap (λ ns. ns ++ name ∷ []) same in
    (e, subst (λ ns. fact_in ns octets ≡ Some fact) (shows ∙ e) is)

pub answered-back : (names items after shown now : List (List ℕ)) (octets name : List ℕ) (count : ℕ)
    (fault : FactError) → items ≡ names → after ≡ items ++ name ∷ [] → shown ≡ after
    → length shown ≡ count → now ≡ take (count - 1) after
    → Answers {X = Fact} {Y = Fact} (λ x. x) (Err fault) (fact_in shown octets)
    → IsForFrame fault (fact_in shown octets)
    → Answered names octets now (Err fault) (Some (names ++ name ∷ []))
answered-back names items after shown now octets name count fault same grown shows many back answers frames =
    let e : shown ≡ names ++ name ∷ [] = shows ∙ grown ∙ ap (λ ns. ns ++ name ∷ []) same in (
      back ∙ last-gone items after name count grown (sym (ap length shows) ∙ many) ∙ same,
      subst (λ ns. Answers {X = Fact} {Y = Fact} (λ x. x) (Err fault) (fact_in ns octets)) e answers,
      subst (λ ns. IsForFrame fault (fact_in ns octets)) e frames,
    )

-- a line under a name that is known
pub answered-again : (names items seen shown : List (List ℕ)) (octets name word : List ℕ)
    (r : Result Fact FactError) (o : Option ℕ) → items ≡ names → seen ≡ items → shown ≡ items
    → word ≡ name → o ≡ station_of seen word → is_some o ≡ true
    → Answers {X = Fact} {Y = Fact} (λ x. x) r (fact_in shown octets)
    → IfErr r (λ fault. IsForFrame fault (fact_in shown octets))
    → Answered names octets names r (grown_by names (Some name))
answered-again names items seen shown octets name word r o same saw shows spelt is some answers frames =
    answered-under names octets names r (Some names) (grown_by names (Some name))
    (known-by names name o
    (is ∙ ap (λ ns. station_of ns word) (saw ∙ same) ∙ ap (λ w. station_of names w) spelt) some)
    (answered-known names octets r
    (subst (λ ns. Answers {X = Fact} {Y = Fact} (λ x. x) r (fact_in ns octets)) (shows ∙ same) answers)
    (subst (λ ns. IfErr r (λ fault. IsForFrame fault (fact_in ns octets))) (shows ∙ same) frames))

pub answered-unnamed : (names items shown : List (List ℕ)) (octets : List ℕ)
    (r : Result Fact FactError) → items ≡ names → name_in octets ≡ None → shown ≡ items
    → Answers {X = Fact} {Y = Fact} (λ x. x) r (fact_in shown octets)
    → IfErr r (λ fault. IsForFrame fault (fact_in shown octets))
    → Answered names octets names r (grown_by names (name_in octets))
answered-unnamed names items shown octets r same none slice is frame =
    answered-under names octets names r (Some names) (grown_by names (name_in octets))
    (ap (grown_by names) none)
    (answered-known names octets r
    (subst (λ ns. Answers {X = Fact} {Y = Fact} (λ x. x) r (fact_in ns octets)) (slice ∙ same) is)
    (subst (λ ns. IfErr r (λ fault. IsForFrame fault (fact_in ns octets))) (slice ∙ same) frame))

-- ---- lines that give no name

by-first : (word : List ℕ) (others : List (List ℕ)) → is_word word (codes "life") ≡ false
    → name_of (word ∷ others) ≡ None
by-first word others other =
    ap (λ b. and_then (kept_if b others)
    (λ left. and_then (parted left) (λ x. kept_if (is_name x.0) x.0))) other

unled : (x : ℕ) (word : List ℕ) → (x == 108) ≡ false → is_word (x ∷ word) (codes "life") ≡ false
unled x word other = rw other refl

pub unnamed : (line : List ℕ) → begins_as_life line ≡ false → name_in line ≡ None
unnamed [] other = refl
unnamed (x ∷ xs) other = go (is_space x) refl
  where
    go : (b : Bool) → is_space x ≡ b → name_of (slice_split is_space (x ∷ xs)) ≡ None
    go true space = ap name_of (slice_split-cons_yes is_space x xs space)
    go false letter =
        ap name_of (slice_split-cons_no is_space x xs letter ∙ ap (onto_first x) (first_word xs))
        ∙ by-first (x ∷ first_of xs) (words_behind (rest_of xs)) (unled x (first_of xs) other)

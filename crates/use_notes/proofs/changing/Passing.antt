-- What is kept of a sender when one frame more comes.
use Rattle.std.proofs.Common.{◌≡◌, ◌∙◌, ◌<◌, ◌≤◌, ◌+◌, ◌⊎◌, inl, inr, ℕ, zero, suc, Bool, true, false, cond, List, [], ◌∷◌, ◌++◌, length, map, Option, Some, None, min, refl, sym, ap, subst, arith, length-append}
use Rattle.std.specs.Prelude.{◌==◌, is_some, slice_get, slice_set}
use Rattle.std.specs.Map.{lookup}
use Rattle.std.specs.BTreeMap.{is_at}
use Rattle.std.specs.Ordering.{nat_cmp}
use Rattle.std.specs.Cmp.{unsigned_ties}
use Rattle.std.proofs.lemmas.Bool.{eqb-true, eq-eqb, ne_eqb, cases_eq}
use Rattle.std.proofs.lemmas.List.{map-append, length-map, set_at}
use Rattle.use_notes.specs.declared.frame.RightFrame.{RightFrame}
use Rattle.use_notes.specs.Frames.{IsBehind, AreInOrder}
use Rattle.use_notes.specs.Uses.{newest_packet}
use Rattle.use_notes.specs.declared.changes.change.Handover.{Handover}
use Rattle.use_notes.specs.changes.Changes.{under, earlier, later, is_first, firsts, neighbours, time_since_newest, time_to_newest}
use Rattle.use_notes.specs.changes.Standing.{KeptOfSender, Keeps, handover, turn_of, newest_of, newest_under}
use Rattle.use_notes.specs.changes.inside.Passing.{Begins, passed, passes_on, passed_from, handovers_at, newest_at, goes_on}
use Rattle.use_notes.proofs.changing.First.{has_key, known-turn, is-first, is-known, AreApart, firsts-apart, firsts-behind, under-own, under-other, under-behind, some-under, all-earlier, none-later, not-earlier, is-later, few-later}

abbrev Pair : Type 0
Pair = RightFrame × RightFrame

abbrev made : RightFrame → ℕ → List RightFrame → List RightFrame → Handover
made first from before behind = record {
  from = from;
  to = first.key;
  last = newest_packet before;
  first = first.packet;
  began = first.time;
  gap = time_since_newest first.time before;
  after = length behind;
  behind = time_to_newest first.time behind;
}

-- a frame under another key
pub handover-other : (e : RightFrame) (fs : List RightFrame) (it : Pair) → (e.key ≡ it.0.key → ⊥)
    → handover (e ∷ fs) it ≡ handover fs it
handover-other e fs it apart =
    ap (λ (us : List RightFrame). made it.1 it.0.key (earlier it.1.packet us) (later it.1.packet us))
    (under-other it.0.key e fs apart)

counted : (n top : ℕ) → suc n ≤ top → suc n ≡ min (n + 1) top
counted n top less = omega (arith, less)

-- a frame under the key before, behind the first under the next
pub handover-own : (e : RightFrame) (fs : List RightFrame) (it : Pair) → e.key ≡ it.0.key
    → it.1.packet < e.packet → AreInOrder (e ∷ fs) → e.packet ≤ 4294967295
    → handover (e ∷ fs) it ≡ passes_on e (handover fs it)
handover-own e fs it own before order fits =
    let first = it.1 in
    let us = under it.0.key fs in
    let less = few-later it.0.key first.packet e fs order in
    ap (λ (vs : List RightFrame). made first it.0.key (earlier first.packet vs) (later first.packet vs))
    (under-own it.0.key e fs own)
    ∙ ap (λ (vs : List RightFrame). made first it.0.key vs (later first.packet (e ∷ us))) (not-earlier first.packet e us before)
    ∙ ap (λ (vs : List RightFrame). made first it.0.key (earlier first.packet us) vs) (is-later first.packet e us before)
    ∙ ap (λ n. record (passes_on e (handover fs it)) { after = n })
    (counted (length (later first.packet us)) 4294967295 (omega (arith, less, fits)))

-- ---- places

get-front : (vs ws : List Handover) (n : ℕ) (v : Handover) → slice_get vs n ≡ Some v → slice_get (vs ++ ws) n ≡ Some v
get-front [] ws n v is = absurd (cc is)
get-front (x ∷ vs) ws zero v is = is
get-front (x ∷ vs) ws (suc n) v is = get-front vs ws n v is

set-front : (vs ws : List Handover) (n : ℕ) (v y : Handover) → slice_get vs n ≡ Some v
    → slice_set (vs ++ ws) n y ≡ slice_set vs n y ++ ws
set-front [] ws n v y is = absurd (cc is)
set-front (x ∷ vs) ws zero v y is = refl
set-front (x ∷ vs) ws (suc n) v y is = ap (λ (us : List Handover). x ∷ us) (set-front vs ws n v y is)

get-end : (vs : List Handover) (n : ℕ) (v : Handover) → length vs ≡ n → slice_get (vs ++ v ∷ []) n ≡ Some v
get-end [] n v is = ap (λ k. slice_get (v ∷ []) k) (sym is)
get-end (x ∷ vs) n v is = ap (λ k. slice_get (x ∷ vs ++ v ∷ []) k) (sym is) ∙ get-end vs (length vs) v refl

get-past : (vs : List Handover) (n : ℕ) → length vs ≤ n → slice_get vs n ≡ None
get-past [] n past = refl
get-past (x ∷ vs) zero past = absurd (omega (arith, past))
get-past (x ∷ vs) (suc n) past = get-past vs n (omega (arith, past))

-- ---- neighbours

some-is : (m n : ℕ) → Some m ≡ Some n → m ≡ n
some-is m n is = cc is

neighbours-are : (e : RightFrame) (fs : List RightFrame) → length (neighbours (e ∷ fs)) ≡ length fs
neighbours-are e [] = refl
neighbours-are e (f ∷ fs) =
    let less = neighbours-are f fs in
    let more = length-append (neighbours (f ∷ fs)) ((f, e) ∷ []) in omega (arith, less, more)

handovers-are : (fs : List RightFrame) (e : RightFrame) (es : List RightFrame)
    → length (map (handover fs) (neighbours (e ∷ es))) ≡ length es
handovers-are fs e es = length-map (neighbours (e ∷ es)) (handover fs) ∙ neighbours-are e es

abbrev turn_with : Bool → RightFrame → List RightFrame → ℕ → Option ℕ
turn_with b a es key = cond b (Some (length es)) (turn_of key es)

apart-key : (key : ℕ) (a : RightFrame) (es : List RightFrame) → turn_of key (a ∷ es) ≡ None
    → (a.key ≡ key → ⊥) × (turn_of key es ≡ None)
apart-key key a es none = go (a.key == key) refl
  where
    go : (b : Bool) → (a.key == key) ≡ b → (a.key ≡ key → ⊥) × (turn_of key es ≡ None)
    go true is = absurd (cc (ap (λ b. turn_with b a es key) (sym is) ∙ none))
    go false is =
        (λ own. absurd (cc (sym is ∙ eq-eqb a.key key own)), ap (λ b. turn_with b a es key) (sym is) ∙ none)

-- none of the keys before is that of a frame more
pub stays : (e : RightFrame) (fs : List RightFrame) (b : RightFrame) (es : List RightFrame) → turn_of e.key es ≡ None
    → map (handover (e ∷ fs)) (neighbours (b ∷ es)) ≡ map (handover fs) (neighbours (b ∷ es))
stays e fs b [] none = refl
stays e fs b (a ∷ es) none =
    let both = apart-key e.key a es none in
    map-append (handover (e ∷ fs)) (neighbours (a ∷ es)) ((a, b) ∷ [])
    ∙ ap (λ (v : Handover). map (handover (e ∷ fs)) (neighbours (a ∷ es)) ++ v ∷ []) (handover-other e fs (a, b) (λ is. both.0 (sym is)))
    ∙ ap (λ (vs : List Handover). vs ++ handover fs (a, b) ∷ []) (stays e fs a es both.1)
    ∙ sym (map-append (handover fs) (neighbours (a ∷ es)) ((a, b) ∷ []))

-- one of them is
record Passes (e : RightFrame) (old new : List Handover) (turn : ℕ) : Type 0 where
  v : Handover
  there : slice_get old turn ≡ Some v
  now : new ≡ slice_set old turn (passes_on e v)

passes : (e : RightFrame) (fs : List RightFrame) (b : RightFrame) (es : List RightFrame) (turn : ℕ)
    → AreInOrder (e ∷ fs) → e.packet ≤ 4294967295 → AreApart es → IsBehind e.packet (b ∷ es)
    → turn_of e.key es ≡ Some turn
    → Passes e (map (handover fs) (neighbours (b ∷ es))) (map (handover (e ∷ fs)) (neighbours (b ∷ es))) turn
passes e fs b [] turn order fits apart behind some = absurd (cc some)
passes e fs b (a ∷ es) turn order fits apart behind some =
    go (a.key == e.key) refl (λ more. passes e fs a es turn order fits apart.1 behind.1 more)
  where
    old : List Handover
    old = map (handover fs) (neighbours (a ∷ es))

    were : map (handover fs) (neighbours (b ∷ a ∷ es)) ≡ old ++ handover fs (a, b) ∷ []
    were = map-append (handover fs) (neighbours (a ∷ es)) ((a, b) ∷ [])

    are : map (handover (e ∷ fs)) (neighbours (b ∷ a ∷ es)) ≡ map (handover (e ∷ fs)) (neighbours (a ∷ es)) ++ handover (e ∷ fs) (a, b) ∷ []
    are = map-append (handover (e ∷ fs)) (neighbours (a ∷ es)) ((a, b) ∷ [])

    go : (c : Bool) → (a.key == e.key) ≡ c
        → (turn_of e.key es ≡ Some turn
        → Passes e (map (handover fs) (neighbours (a ∷ es))) (map (handover (e ∷ fs)) (neighbours (a ∷ es))) turn)
        → Passes e (map (handover fs) (neighbours (b ∷ a ∷ es))) (map (handover (e ∷ fs)) (neighbours (b ∷ a ∷ es))) turn
    go true is later =
        let own = eqb-true a.key e.key is in
        let last : length old ≡ turn = handovers-are fs a es ∙ some-is (length es) turn (ap (λ c. turn_with c a es e.key) (sym is) ∙ some) in record {
          v = handover fs (a, b);
          there = ap (λ (vs : List Handover). slice_get vs turn) were ∙ get-end old turn (handover fs (a, b)) last;
          now = are
              ∙ ap (λ (vs : List Handover). vs ++ handover (e ∷ fs) (a, b) ∷ []) (stays e fs a es (subst (λ k. turn_of k es ≡ None) own apart.0))
              ∙ ap (λ (v : Handover). old ++ v ∷ []) (handover-own e fs (a, b) (sym own) behind.0 order fits)
              ∙ sym (set_at old (handover fs (a, b)) [] (passes_on e (handover fs (a, b))) turn last)
              ∙ ap (λ (vs : List Handover). slice_set vs turn (passes_on e (handover fs (a, b)))) (sym were);
        }
    go false is later =
        let more = later (ap (λ c. turn_with c a es e.key) (sym is) ∙ some) in record {
          v = more.v;
          there = ap (λ (vs : List Handover). slice_get vs turn) were ∙ get-front old (handover fs (a, b) ∷ []) turn more.v more.there;
          now = are
              ∙ ap (λ (vs : List Handover). vs ++ handover (e ∷ fs) (a, b) ∷ []) more.now
              ∙ ap (λ (v : Handover). slice_set old turn (passes_on e more.v) ++ v ∷ []) (handover-other e fs (a, b) (λ own. absurd (cc (sym is ∙ eq-eqb a.key e.key (sym own)))))
              ∙ sym (set-front old (handover fs (a, b) ∷ []) turn more.v (passes_on e more.v) more.there)
              ∙ ap (λ (vs : List Handover). slice_set vs turn (passes_on e more.v)) (sym were);
        }

-- ---- a key that is known

record Goes (e : RightFrame) (fs es : List RightFrame) (turn : ℕ) : Type 0 where
  handovers : map (handover (e ∷ fs)) (neighbours es)
      ≡ handovers_at (slice_get (map (handover fs) (neighbours es)) turn) turn e (map (handover fs) (neighbours es))
  newest : newest_under (e ∷ fs) es
      ≡ newest_at (slice_get (map (handover fs) (neighbours es)) turn) e (newest_under fs es)

went : (e : RightFrame) (fs es : List RightFrame) (turn : ℕ) → AreInOrder (e ∷ fs) → e.packet ≤ 4294967295
    → AreApart es → IsBehind e.packet es → turn_of e.key es ≡ Some turn → Goes e fs es turn
went e fs [] turn order fits apart behind some = absurd (cc some)
went e fs (b ∷ es) turn order fits apart behind some = go (b.key == e.key) refl
  where
    old : List Handover
    old = map (handover fs) (neighbours (b ∷ es))

    go : (c : Bool) → (b.key == e.key) ≡ c → Goes e fs (b ∷ es) turn
    go true is =
        let own = eqb-true b.key e.key is in
        let last : length es ≡ turn = some-is (length es) turn (ap (λ c. turn_with c b es e.key) (sym is) ∙ some) in
        let same = handovers-are fs b es in
        let none = get-past old turn (omega (arith, last, same)) in record {
          handovers = stays e fs b es (subst (λ k. turn_of k es ≡ None) own apart.0)
              ∙ ap (λ (o : Option Handover). handovers_at o turn e old) (sym none);
          newest = ap (λ (us : List RightFrame). newest_of us) (under-own b.key e fs (sym own))
              ∙ ap (λ (o : Option Handover). newest_at o e (newest_under fs (b ∷ es))) (sym none);
        }
    go false is =
        let more = passes e fs b es turn order fits apart.1 behind (ap (λ c. turn_with c b es e.key) (sym is) ∙ some) in record {
          handovers = more.now ∙ ap (λ (o : Option Handover). handovers_at o turn e old) (sym more.there);
          newest = ap (λ (us : List RightFrame). newest_of us) (under-other b.key e fs (λ own. absurd (cc (sym is ∙ eq-eqb b.key e.key (sym own)))))
              ∙ ap (λ (o : Option Handover). newest_at o e (newest_under fs (b ∷ es))) (sym more.there);
        }

firsts-same : (fs : List RightFrame) (e : RightFrame) → is_first fs e ≡ false → firsts (e ∷ fs) ≡ firsts fs
firsts-same fs e is = ap (λ b. cond b (e ∷ firsts fs) (firsts fs)) is

pub keeps-on : (e : RightFrame) (fs : List RightFrame) (old : KeptOfSender) (turn : ℕ) → Keeps fs old → AreInOrder (e ∷ fs)
    → e.packet ≤ 4294967295 → lookup (is_at (nat_cmp e.key)) old.turns ≡ Some turn → Keeps (e ∷ fs) (goes_on turn e old)
keeps-on e fs old turn keeps order fits found =
    let some : turn_of e.key (firsts fs) ≡ Some turn = sym (keeps.turns e.key) ∙ found in
    let same = firsts-same fs e (is-known fs e turn some) in
    let goes = went e fs (firsts fs) turn order fits (firsts-apart fs) (firsts-behind e.packet fs order.0) some in record {
      turns = λ key. keeps.turns key ∙ ap (λ (es : List RightFrame). turn_of key es) (sym same);
      handovers = ap (λ (vs : List Handover). handovers_at (slice_get vs turn) turn e vs) keeps.handovers
          ∙ sym goes.handovers ∙ ap (λ (es : List RightFrame). map (handover (e ∷ fs)) (neighbours es)) (sym same);
      newest = ap (λ (vs : List Handover). newest_at (slice_get vs turn) e old.newest) keeps.handovers
          ∙ ap (λ (o : Option RightFrame). newest_at (slice_get (map (handover fs) (neighbours (firsts fs))) turn) e o) keeps.newest
          ∙ sym goes.newest ∙ ap (λ (es : List RightFrame). newest_under (e ∷ fs) es) (sym same);
    }

-- ---- a new key

firsts-more : (fs : List RightFrame) (e : RightFrame) → is_first fs e ≡ true → firsts (e ∷ fs) ≡ e ∷ firsts fs
firsts-more fs e is = ap (λ b. cond b (e ∷ firsts fs) (firsts fs)) is

self-key : (n : ℕ) → (n == n) ≡ true
self-key n = eq-eqb n n refl

-- between the last frame under the newest key and the first under the new one
handover-new : (e : RightFrame) (fs : List RightFrame) (a last : RightFrame) (rest : List RightFrame)
    → IsBehind e.packet fs → (e.key ≡ a.key → ⊥) → under a.key fs ≡ last ∷ rest → last.key ≡ a.key
    → handover (e ∷ fs) (a, e) ≡ passed last e
handover-new e fs a last rest behind apart is own =
    let us = under a.key fs in
    let all = under-behind a.key e.packet fs behind in
    handover-other e fs (a, e) apart
    ∙ ap (λ (vs : List RightFrame). made e a.key vs (later e.packet us)) (all-earlier e.packet us all)
    ∙ ap (λ (vs : List RightFrame). made e a.key us vs) (none-later e.packet us all)
    ∙ ap (λ (vs : List RightFrame). made e a.key vs []) is
    ∙ ap (λ k. made e k (last ∷ rest) []) (sym own)

record Begun (e : RightFrame) (fs es : List RightFrame) (newest : Option RightFrame) : Type 0 where
  handovers : map (handover (e ∷ fs)) (neighbours (e ∷ es))
      ≡ map (handover fs) (neighbours es) ++ passed_from newest e

begun : (e : RightFrame) (fs es : List RightFrame) → es ≡ firsts fs → IsBehind e.packet fs → turn_of e.key es ≡ None
    → Begun e fs es (newest_under fs es)
begun e fs [] are behind none = record { handovers = refl }
begun e fs (a ∷ es) are behind none =
    let both = apart-key e.key a es none in
    let known : has_key a.key fs ≡ true =
    sym (known-turn a.key fs) ∙ ap (λ (gs : List RightFrame). is_some (turn_of a.key gs)) (sym are)
    ∙ ap (λ b. is_some (turn_with b a es a.key)) (self-key a.key) in
    let newest = some-under a.key fs known in record {
      handovers = map-append (handover (e ∷ fs)) (neighbours (a ∷ es)) ((a, e) ∷ [])
          ∙ ap (λ (vs : List Handover). vs ++ handover (e ∷ fs) (a, e) ∷ []) (stays e fs a es both.1)
          ∙ ap (λ (v : Handover). map (handover fs) (neighbours (a ∷ es)) ++ v ∷ []) (handover-new e fs a newest.last newest.rest behind (λ own. both.0 (sym own)) newest.is newest.own)
          ∙ ap (λ (us : List RightFrame). map (handover fs) (neighbours (a ∷ es)) ++ passed_from (newest_of us) e) (sym newest.is);
    }

other-at : (a b : ℕ) → (a ≡ b → ⊥) → is_at (nat_cmp a) b ≡ false
other-at a b apart = sym (unsigned_ties a b) ∙ ne_eqb a b apart

pub keeps-new : (e : RightFrame) (fs : List RightFrame) (old new : KeptOfSender) → Keeps fs old → AreInOrder (e ∷ fs)
    → lookup (is_at (nat_cmp e.key)) old.turns ≡ None → Begins e old new → Keeps (e ∷ fs) new
keeps-new e fs old new keeps order found begins = record {
  turns = λ key. turns key (cases_eq e.key key)
      ∙ ap (λ (es : List RightFrame). turn_of key es) (sym more);
  handovers = handovers ∙ ap (λ (es : List RightFrame). map (handover (e ∷ fs)) (neighbours es)) (sym more);
  newest = begins.newest ∙ ap (λ (us : List RightFrame). newest_of us) (sym (under-own e.key e fs refl))
      ∙ ap (λ (es : List RightFrame). newest_under (e ∷ fs) es) (sym more);
}
  where
    none : turn_of e.key (firsts fs) ≡ None
    none = sym (keeps.turns e.key) ∙ found

    more : firsts (e ∷ fs) ≡ e ∷ firsts fs
    more = firsts-more fs e (is-first fs e none)

    handovers : new.handovers ≡ map (handover (e ∷ fs)) (neighbours (e ∷ firsts fs))
    handovers = begins.handovers
        ∙ ap (λ (vs : List Handover). vs ++ passed_from old.newest e) keeps.handovers
        ∙ ap (λ (o : Option RightFrame). map (handover fs) (neighbours (firsts fs)) ++ passed_from o e) keeps.newest
        ∙ sym (begun e fs (firsts fs) refl order.0 none).handovers

    many : length new.handovers ≡ length (firsts fs)
    many = ap length handovers ∙ handovers-are (e ∷ fs) e (firsts fs)

    turns : (key : ℕ) → (e.key ≡ key) ⊎ (e.key ≡ key → ⊥)
        → lookup (is_at (nat_cmp key)) new.turns ≡ turn_of key (e ∷ firsts fs)
    turns key (inl own) =
        ap (λ k. lookup (is_at (nat_cmp k)) new.turns) (sym own) ∙ begins.here ∙ ap Some many
        ∙ ap (λ b. turn_with b e (firsts fs) key) (sym (eq-eqb e.key key own))
    turns key (inr apart) =
        begins.others key ∙ ap (λ b. cond b (Some (length new.handovers)) (lookup (is_at (nat_cmp key)) old.turns)) (other-at e.key key apart)
        ∙ keeps.turns key ∙ ap (λ b. turn_with b e (firsts fs) key) (sym (ne_eqb e.key key apart))

-- What words do of cards as they follow facts.
use Rattle.std.proofs.Common.{◌≡◌, ◌≢◌, ◌⊎◌, inl, inr, ℕ, ◌+◌, ◌<◌, ◌≤◌, true}
use Rattle.std.proofs.Common.{List, [], ◌∷◌, ◌++◌, Option, Some, None, refl, ap, sym, ◌∙◌, subst, arith}
use Rattle.std.proofs.lemmas.Bool.{cases_Bool, eq-eqb}
use Rattle.std.specs.Prelude.{◌==◌, nat_lt, option_map, option_and_then, Contains}
use Rattle.lan_base.specs.declared.association_number.AssociationNumber.{AssociationNumber}
use Rattle.lan_base.specs.declared.key_id.KeyId.{KeyId}
use Rattle.aes_block.specs.declared.secret.Secret.{Secret}
use Rattle.association_slots.specs.Cards.{card_at}
use Rattle.association_slots.specs.Views.{ControlAt}
use Rattle.association_slots.specs.declared.card.Card.{Card}
use Rattle.association_slots.specs.declared.view.ControlView.{ControlView}
use Rattle.sak_exchange.specs.declared.held_key.HeldKey.{HeldKey}
use Rattle.sak_exchange.proofs.Public.{by_option}
use Rattle.lan_core.specs.declared.fact.Fact.{Fact}
use Rattle.lan_core.specs.declared.fact.Fact.TheVariants as facts
use Rattle.lan_core.specs.declared.settings.Settings.{Settings}
use Rattle.lan_core.specs.Keys.{held_at}
use Rattle.lan_core.specs.Order.{most_installs}
use Rattle.lan_core.specs.Run.{Run, place}
use Rattle.group_safety.specs.Accounts.{Account}
use Rattle.group_safety.specs.Transmitting.{Carried, begun, ended, follow, installed, may_begin, moved, moves, names, now}
use Rattle.group_safety.proofs.Public.{In, contains-in, in-contains, follow-append}
use Rattle.station_words.specs.Telling.{KeepUp}
use Rattle.station_words.specs.Ties.{CardsFollow, FollowsBy}
use Rattle.station_words.specs.inside.Cards.{GivesCard, HasCard, IsCarded, card_held, card_of_key}

-- ---- how many keys were installed

same-kept : (k j : Carried) → Some k ≡ Some j → k.installs ≤ j.installs
same-kept k j is = let e : k ≡ j = cc is in let n = ap (λ (x : Carried). x.installs) e in omega (arith, n)

pub more-installed : (k j : Carried) → installed k ≡ Some j → j.installs ≡ k.installs + 1
more-installed k j is = elim (cases_Bool (nat_lt k.installs most_installs)) [
  | inl few ↦ (let e : Some (record k { installs = k.installs + 1 }) ≡ Some j = rw few at is in
      let same : record k { installs = k.installs + 1 } ≡ j = cc e in sym (ap (λ (x : Carried). x.installs) same))
  | inr many ↦ (let e : None ≡ Some j = rw many at is in absurd (cc e))
]

begun-kept : (an : AssociationNumber) (epoch : ℕ) (k j : Carried) → begun an epoch k ≡ Some j → k.installs ≤ j.installs
begun-kept an epoch k j is = elim (cases_Bool (may_begin an epoch (now k) k.installs)) [
  | inl may ↦ (let e : Some (record k { points = record { epoch = epoch; present = true; an = an } ∷ k.points }) ≡ Some j = rw may at is in
      let same : record k { points = record { epoch = epoch; present = true; an = an } ∷ k.points } ≡ j = cc e in
      let n = ap (λ (x : Carried). x.installs) same in omega (arith, n))
  | inr not_so ↦ (let e : None ≡ Some j = rw not_so at is in absurd (cc e))
]

ended-kept : (an : AssociationNumber) (k : Carried) → (ended an k).installs ≡ k.installs
ended-kept an k = elim (cases_Bool (names (now k) an)) [
  | inl own ↦ rw own refl
  | inr other ↦ rw other refl
]

moves-more : (s : ℕ) (f : Fact) (k j : Carried) → moves s f k ≡ Some j → k.installs ≤ j.installs
moves-more s (facts.Installed t id an epoch sak) k j is = elim (cases_Bool (t == s)) [
  | inl own ↦ (let e : installed k ≡ Some j = rw own at is in let n = more-installed k j e in omega (arith, n))
  | inr other ↦ (let e : Some k ≡ Some j = rw other at is in same-kept k j e)
]
moves-more s (facts.Began t id an epoch cause) k j is = elim (cases_Bool (t == s)) [
  | inl own ↦ (let e : begun an epoch k ≡ Some j = rw own at is in begun-kept an epoch k j e)
  | inr other ↦ (let e : Some k ≡ Some j = rw other at is in same-kept k j e)
]
moves-more s (facts.Dropped t id an) k j is = elim (cases_Bool (t == s)) [
  | inl own ↦ (let e : Some (ended an k) ≡ Some j = rw own at is in
      let n = same-kept (ended an k) j e in let m = ended-kept an k in omega (arith, n, m))
  | inr other ↦ (let e : Some k ≡ Some j = rw other at is in same-kept k j e)
]
moves-more s _ k j is = same-kept k j is

-- what the first of some facts leaves
then-follows : (s : ℕ) (f : Fact) (later : List Fact) (k j : Carried) → follow s (f ∷ later) k ≡ Some j
    → (i : Carried) × (moves s f k ≡ Some i) × (follow s later i ≡ Some j)
then-follows s f later k j is = by_option (moves s f k)
    (λ none. let e : None ≡ Some j = rw none at is in absurd (cc e))
    (λ i some. (i, some, let e : follow s later i ≡ Some j = rw some at is in e))

follow-more : (s : ℕ) (shown : List Fact) (k j : Carried) → follow s shown k ≡ Some j → k.installs ≤ j.installs
follow-more s [] k j is = same-kept k j is
follow-more s (f ∷ later) k j is =
    let t = then-follows s f later k j is in
    let first = moves-more s f k t.0 t.1 in let rest = follow-more s later t.0 j t.2 in omega (arith, first, rest)

moves-installed : (s : ℕ) (id : KeyId) (an : AssociationNumber) (epoch : ℕ) (sak : Secret) (f : Fact) (k j : Carried)
    → facts.Installed s id an epoch sak ≡ f → moves s f k ≡ Some j → j.installs ≡ k.installs + 1
moves-installed s id an epoch sak f k j same is = elim (cases_Bool (s == s)) [
  | inl own ↦ (let e : moves s (facts.Installed s id an epoch sak) k ≡ Some j = ap (λ g. moves s g k) same ∙ is in
      let d : installed k ≡ Some j = rw own at e in more-installed k j d)
  | inr other ↦ absurd (cc (sym (eq-eqb s s refl) ∙ other))
]

follow-installed : (s : ℕ) (id : KeyId) (an : AssociationNumber) (epoch : ℕ) (sak : Secret) (shown : List Fact) (k j : Carried)
    → In (facts.Installed s id an epoch sak) shown → follow s shown k ≡ Some j → k.installs + 1 ≤ j.installs
follow-installed s id an epoch sak [] k j within is = absurd within
follow-installed s id an epoch sak (f ∷ later) k j (inl here) is =
    let t = then-follows s f later k j is in
    let first = moves-installed s id an epoch sak f k t.0 here t.1 in let rest = follow-more s later t.0 j t.2 in omega (arith, first, rest)
follow-installed s id an epoch sak (f ∷ later) k j (inr past) is =
    let t = then-follows s f later k j is in
    let first = moves-more s f k t.0 t.1 in let rest = follow-installed s id an epoch sak later t.0 j past t.2 in omega (arith, first, rest)

-- ---- no fact, and a fact of another station

pub cards-none : (settings : Settings) (r : Run) (s : ℕ) (d : ControlAt) → CardsFollow settings r s [] d d
cards-none settings r s d a k up is = record {
  earlier = λ epoch some low. refl;
  given = λ more id an epoch sak held within living. absurd (contains-in [] _ within);
}

place-of : (s : ℕ) (id : KeyId) (an : AssociationNumber) (epoch : ℕ) (sak : Secret) (f : Fact)
    → Contains (f ∷ []) (facts.Installed s id an epoch sak) → facts.Installed s id an epoch sak ≡ f
place-of s id an epoch sak f within = elim (contains-in (f ∷ []) _ within) [
  | inl here ↦ here
  | inr none ↦ absurd none
]

pub cards-other : (settings : Settings) (r : Run) (s : ℕ) (f : Fact) (d : ControlAt) → s ≢ place f
    → CardsFollow settings r s (f ∷ []) d d
cards-other settings r s f d ne a k up is = record {
  earlier = λ epoch some low. refl;
  given = λ more id an epoch sak held within living. absurd (ne (ap place (place-of s id an epoch sak f within)));
}

-- ---- a fact of the station

given-one : (settings : Settings) (r : Run) (s : ℕ) (id : KeyId) (an : AssociationNumber) (epoch : ℕ) (sak : Secret)
    (held : HeldKey) (f : Fact) (card : Option Card) (at : Card) → facts.Installed s id an epoch sak ≡ f
    → card ≡ card_held settings r f → IsCarded f card at → held_at settings s r an ≡ Some held
    → at ≡ card_of_key held
given-one settings r s id an epoch sak held f card at same is carded living =
    let own : card ≡ Some at = subst (λ g. IsCarded g card at) (sym same) carded in
    let here : card ≡ option_map card_of_key (held_at settings s r an) = is ∙ ap (card_held settings r) (sym same) in
    let both : Some at ≡ Some (card_of_key held) = sym own ∙ (here ∙ ap (option_map card_of_key) living) in cc both

pub cards-own : (settings : Settings) (r : Run) (s : ℕ) (f : Fact) (c d : ControlAt) (card : Option Card)
    → ((k j : Carried) → moves s f k ≡ Some j → moved f k ≡ Some j)
    → card ≡ card_held settings r f → HasCard f card
    → ((a : Account) (k : Carried) → KeepUp a c.view → moved f a.carried ≡ Some k → HasCard f card
    → GivesCard f card a.carried.installs c.view d.view)
    → CardsFollow settings r s (f ∷ []) c d
cards-own settings r s f c d card own is has gives a k up follows =
    let t = then-follows s f [] a.carried k follows in
    let g = gives a t.0 up (own a.carried t.0 t.1) has in record {
      earlier = g.earlier;
      given = λ more id an epoch sak held within living.
          given-one settings r s id an epoch sak held f card _ (place-of s id an epoch sak f within) is g.given living;
    }

-- the words of cards stay
pub cards-stay : (old new : ControlView) → new.card_words ≡ old.card_words → (epoch : ℕ)
    → card_at new epoch ≡ card_at old epoch
cards-stay old new same epoch = ap (λ (w : List ℕ). card_at (record old { card_words = w }) epoch) same

-- an install has its card
pub gives-card : (fact : Fact) (id : KeyId) (an : AssociationNumber) (epoch s : ℕ) (sak : Secret) (card : Option Card)
    (at : Card) (k j : Carried) (old new : ControlView) → fact ≡ facts.Installed s id an epoch sak
    → card ≡ Some at → installed k ≡ Some j → card_at new j.installs ≡ at
    → ((e : ℕ) → 0 < e → e ≤ k.installs → card_at new e ≡ card_at old e)
    → GivesCard fact card k.installs old new
gives-card fact id an epoch s sak card at k j old new is has more here before = record {
  earlier = before;
  given = subst (λ f. IsCarded f card (card_at new (k.installs + 1))) (sym is)
      (has ∙ ap Some (sym (ap (card_at new) (sym (more-installed k j more)) ∙ here)));
}

-- another fact leaves the cards
pub drops-none : (fact : Fact) (id : KeyId) (an : AssociationNumber) (s : ℕ) (card : Option Card) (count : ℕ)
    (old new : ControlView) → fact ≡ facts.Dropped s id an → new.card_words ≡ old.card_words
    → GivesCard fact card count old new
drops-none fact id an s card count old new is same = record {
  earlier = λ e positive low. cards-stay old new same e;
  given = subst (λ f. IsCarded f card (card_at new (count + 1))) (sym is) tt;
}

-- ---- one fact after others

either : (xs : List Fact) (y x : Fact) → In x (xs ++ y ∷ []) → In x xs ⊎ (x ≡ y)
either [] y x (inl here) = inr here
either [] y x (inr none) = absurd none
either (z ∷ xs) y x (inl here) = inl (inl here)
either (z ∷ xs) y x (inr past) = elim (either xs y x past) [
  | inl within ↦ inl (inr within)
  | inr last ↦ inr last
]

last-contained : (x y : Fact) → x ≡ y → Contains (y ∷ []) x
last-contained x y same = in-contains (y ∷ []) x (inl same)

pub cards-then : (settings : Settings) (r : Run) (s : ℕ) (fs : List Fact) (f : Fact) (a b c : ControlAt)
    → FollowsBy KeepUp s fs a b → CardsFollow settings r s fs a b → CardsFollow settings r s (f ∷ []) b c
    → CardsFollow settings r s (fs ++ f ∷ []) a c
cards-then settings r s fs f a b c keeps first later l k up is = by_option (follow s fs l.carried)
    (λ none. let e = sym (follow-append s fs (f ∷ []) l.carried ∙ ap (option_and_then (follow s (f ∷ []))) none) ∙ is in absurd (cc e))
    (λ j some.
    let rest : follow s (f ∷ []) j ≡ Some k =
    sym (follow-append s fs (f ∷ []) l.carried ∙ ap (option_and_then (follow s (f ∷ []))) some) ∙ is in
    let one = first l j up some in
    let two = later (record l { carried = j }) k (keeps l j up some) rest in
    let grown = follow-more s fs l.carried j some in
    let more = follow-more s (f ∷ []) j k rest in record {
      earlier = λ epoch positive low. two.earlier epoch positive (omega (arith, low, grown)) ∙ one.earlier epoch positive low;
      given = λ next id an epoch sak held within living.
          elim (either fs f (facts.Installed s id an epoch sak) (contains-in (fs ++ f ∷ []) _ within)) [
            | inl before ↦ (let new = follow-installed s id an epoch sak fs l.carried j before some in
                two.earlier (l.carried.installs + 1) (omega arith) (omega (arith, new))
                ∙ one.given (omega (arith, new, more, next)) id an epoch sak held (in-contains fs _ before) living)
            | inr last ↦ (let t = then-follows s f [] j k rest in
                let new = moves-installed s id an epoch sak f j t.0 last t.1 in
                let whole = same-kept t.0 k t.2 in
                let none : j.installs ≡ l.carried.installs = omega (arith, new, whole, next, grown) in
                ap (λ n. card_at c.view (n + 1)) (sym none)
                ∙ two.given (next ∙ ap (λ n. n + 1) (sym none)) id an epoch sak held (last-contained _ f last) living)
          ];
    })

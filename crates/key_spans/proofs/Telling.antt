-- What facts tell of the key that a station holds under a number, and that the spans tell the same.
use Rattle.std.proofs.Common.{◌≡◌, ◌∙◌, ℕ, Bool, true, false, List, [], ◌∷◌, ◌++◌, Option, Some, None, refl, sym, ap, append_assoc}
use Rattle.std.proofs.lemmas.List.{append-nil}
use Rattle.std.specs.Prelude.{◌==◌, ◌&&◌, ◌||◌, if◌then◌else◌, not, map, is_some, option_map, option_to_list}
use Rattle.std.specs.List.{filter}
use Rattle.lan_base.specs.AssociationNumbers.{same_an}
use Rattle.lan_base.specs.declared.association_number.AssociationNumber.{AssociationNumber}
use Rattle.lan_base.specs.declared.key_id.KeyId.{KeyId}
use Rattle.sak_exchange.proofs.Public.{by_test, by_option}
use Rattle.lan_core.specs.declared.fact.Fact.{Fact}
use Rattle.lan_core.specs.declared.fact.Fact.TheVariants as shows
use Rattle.key_spans.specs.declared.span.Span.{Span}
use Rattle.key_spans.specs.declared.span.Turn.{Turn}
use Rattle.key_spans.specs.declared.span.Turn.TheVariants.{Ends, Begins, Relieves}
use Rattle.key_spans.specs.declared.span.Why.{Why}
use Rattle.key_spans.specs.Spans.{clock, opened, spans, start, touched, turn_by}
use Rattle.key_spans.specs.Times.{is_held, is_transmitting}
use Rattle.key_spans.specs.Held.{KeyName, keys_where}
use Rattle.key_spans.proofs.OneMore.{spans-more}

-- a held key: what names it, whether it began to transmit, and whether another one began in its place
pub record Tell : Type 0 where
  pub id : KeyId
  pub epoch : ℕ
  pub began : Bool
  pub relieved : Bool

abbrev pub begins : Tell → Tell
begins t = record t { began = true }

abbrev pub yields : Tell → Tell
yields t = record t { relieved = t.began || t.relieved }

abbrev pub name_of : Tell → KeyName
name_of t = (t.id, t.epoch)

abbrev pub sends : Tell → Bool
sends t = t.began && not t.relieved

-- ---- by facts

abbrev pub told_after : ℕ → AssociationNumber → Fact → Option Tell → Option Tell
told_after s an (shows.Life t mi) o = if t == s then None else o
told_after s an (shows.Installed t id a epoch sak) o =
    if (t == s) && same_an a an
    then Some (record { id = id; epoch = epoch; began = false; relieved = false }) else o
told_after s an (shows.Retired t id a) o = if (t == s) && same_an a an then None else o
told_after s an (shows.Dropped t id a) o = if (t == s) && same_an a an then None else o
told_after s an (shows.Began t id a epoch cause) o =
    if t == s then option_map (λ t. if same_an a an then begins t else yields t) o else o
told_after s an _ o = o

abbrev pub told_by : ℕ → AssociationNumber → List Fact → Option Tell → Option Tell
told_by s an [] o = o
told_by s an (f ∷ facts) o = told_by s an facts (told_after s an f o)

pub told-append : (s : ℕ) (an : AssociationNumber) (a b : List Fact) (o : Option Tell)
    → told_by s an (a ++ b) o ≡ told_by s an b (told_by s an a o)
told-append s an [] b o = refl
told-append s an (f ∷ a) b o = told-append s an a b (told_after s an f o)

-- ---- by spans

abbrev tell_of : Span → Tell
tell_of x = record {
  id = x.id;
  epoch = x.epoch;
  began = is_some x.began;
  relieved = is_some x.relieved;
}

abbrev tells : List Span → List Tell
tells all = map tell_of (filter is_held all)

-- what a turn makes of the keys that are held
abbrev turned_all : Option Turn → List Tell → List Tell
turned_all None ts = ts
turned_all (Some (Ends why)) ts = []
turned_all (Some Begins) ts = map begins ts
turned_all (Some Relieves) ts = map yields ts

with_head : {t : Tell} {a b : List Tell} → a ≡ b → t ∷ a ≡ t ∷ b
with_head {t = t} is = ap (λ (ts : List Tell). t ∷ ts) is

tells-touched : (at : ℕ) (t : Option Turn) (all : List Span)
    → tells (map (touched at t) all) ≡ turned_all t (tells all)
tells-touched at None [] = refl
tells-touched at (Some (Ends why)) [] = refl
tells-touched at (Some Begins) [] = refl
tells-touched at (Some Relieves) [] = refl
tells-touched at None (x ∷ all) =
    by_option x.ended
    (λ none. rw none (with_head (tells-touched at None all)))
    (λ e some. rw some (tells-touched at None all))
tells-touched at (Some (Ends why)) (x ∷ all) =
    by_option x.ended
    (λ none. rw none (tells-touched at (Some (Ends why)) all))
    (λ e some. rw some (tells-touched at (Some (Ends why)) all))
tells-touched at (Some Begins) (x ∷ all) =
    by_option x.ended
    (λ none. by_option x.began
    (λ never. rw (none, never) (with_head (tells-touched at (Some Begins) all)))
    (λ b began. rw (none, began) (with_head (tells-touched at (Some Begins) all))))
    (λ e some. rw some (tells-touched at (Some Begins) all))
tells-touched at (Some Relieves) (x ∷ all) =
    by_option x.ended
    (λ none. by_option x.began
    (λ never. rw (none, never) (with_head (tells-touched at (Some Relieves) all)))
    (λ b began. by_option x.relieved
    (λ alone. rw (none, began, alone) (with_head (tells-touched at (Some Relieves) all)))
    (λ r relieved. rw (none, began, relieved) (with_head (tells-touched at (Some Relieves) all)))))
    (λ e some. rw some (tells-touched at (Some Relieves) all))

tells-append : (a b : List Span) → tells (a ++ b) ≡ tells a ++ tells b
tells-append [] b = refl
tells-append (x ∷ a) b =
    by_option x.ended
    (λ none. rw none (with_head (tells-append a b)))
    (λ e some. rw some (tells-append a b))

module _ (s : ℕ) (an : AssociationNumber) where
  -- what a fact makes of the keys that are held, by its turn and by what it opens
  abbrev Follows : ℕ → Fact → Type 0
  Follows at f = (o : Option Tell)
      → turned_all (turn_by s an f) (option_to_list o) ++ tells (opened s an at f)
      ≡ option_to_list (told_after s an f o)

  same : (o : Option Tell) → option_to_list o ++ [] ≡ option_to_list o
  same o = append-nil (option_to_list o)

  ends-or : (why : Why) (b : Bool) (o : Option Tell)
      → turned_all (if b then Some (Ends why) else None) (option_to_list o) ++ []
      ≡ option_to_list (if b then None else o)
  ends-or why true o = refl
  ends-or why false o = same o

  begins-all : (o : Option Tell) → map begins (option_to_list o) ++ [] ≡ option_to_list (option_map begins o)
  begins-all None = refl
  begins-all (Some t) = refl

  yields-all : (o : Option Tell) → map yields (option_to_list o) ++ [] ≡ option_to_list (option_map yields o)
  yields-all None = refl
  yields-all (Some t) = refl

  follows : (at : ℕ) (f : Fact) → Follows at f
  follows at (shows.Installed t id a epoch sak) o =
      by_test ((t == s) && same_an a an) (λ y. rw y refl) (λ y. rw y (same o))
  follows at (shows.Retired t id a) o = ends-or _ ((t == s) && same_an a an) o
  follows at (shows.Dropped t id a) o = ends-or _ ((t == s) && same_an a an) o
  follows at (shows.Life t mi) o = ends-or _ (t == s) o
  follows at (shows.Began t id a epoch cause) o =
      by_test (t == s)
      (λ y. by_test (same_an a an) (λ z. rw (y, z) (begins-all o)) (λ z. rw (y, z) (yields-all o)))
      (λ y. rw y (same o))
  follows at _ o = same o

  -- facts more, and what they tell
  told-more : (before facts : List Fact) (o : Option Tell)
      → tells (spans s an before) ≡ option_to_list o
      → tells (spans s an (before ++ facts)) ≡ option_to_list (told_by s an facts o)
  told-more before [] o is = ap (λ (fs : List Fact). tells (spans s an fs)) (append-nil before) ∙ is
  told-more before (f ∷ facts) o is =
      ap (λ (fs : List Fact). tells (spans s an fs)) (sym (append_assoc before (f ∷ []) facts))
      ∙ told-more (before ++ f ∷ []) facts (told_after s an f o) one
    where
      at : ℕ
      at = (clock start before).ticks

      one : tells (spans s an (before ++ f ∷ [])) ≡ option_to_list (told_after s an f o)
      one =
          ap tells (spans-more s an f start before)
          ∙ tells-append (map (touched at (turn_by s an f)) (spans s an before)) (opened s an at f)
          ∙ ap (λ (ts : List Tell). ts ++ tells (opened s an at f))
          (tells-touched at (turn_by s an f) (spans s an before)
          ∙ ap (turned_all (turn_by s an f)) is)
          ∙ follows at f o

  pub spans-told : (facts : List Fact) → tells (spans s an facts) ≡ option_to_list (told_by s an facts None)
  spans-told facts = told-more [] facts None refl

-- ---- the names of those that are held, and of those that transmit

held-names : (all : List Span) → keys_where is_held all ≡ map name_of (tells all)
held-names [] = refl
held-names (x ∷ all) =
    by_option x.ended
    (λ none. rw none (ap (λ (ns : List KeyName). (x.id, x.epoch) ∷ ns) (held-names all)))
    (λ e some. rw some (held-names all))

sending-names : (all : List Span) → keys_where is_transmitting all ≡ map name_of (filter sends (tells all))
sending-names [] = refl
sending-names (x ∷ all) =
    by_option x.ended
    (λ none. by_test (is_some x.began)
    (λ began. by_test (is_some x.relieved)
    (λ relieved. rw (none, began, relieved) (sending-names all))
    (λ relieved. rw (none, began, relieved) (ap (λ (ns : List KeyName). (x.id, x.epoch) ∷ ns) (sending-names all))))
    (λ began. rw (none, began) (sending-names all)))
    (λ e some. by_test (is_some x.began)
    (λ began. by_test (is_some x.relieved)
    (λ relieved. rw (some, began, relieved) (sending-names all))
    (λ relieved. rw (some, began, relieved) (sending-names all)))
    (λ began. rw (some, began) (sending-names all)))

pub names-told : (s : ℕ) (an : AssociationNumber) (facts : List Fact) (o : Option Tell)
    → told_by s an facts None ≡ o
    → (keys_where is_held (spans s an facts) ≡ map name_of (option_to_list o))
    × (keys_where is_transmitting (spans s an facts) ≡ map name_of (filter sends (option_to_list o)))
names-told s an facts o is =
    let all = spans-told s an facts ∙ ap option_to_list is in (
      held-names (spans s an facts) ∙ ap (map name_of) all,
      sending-names (spans s an facts) ∙ ap (λ (ts : List Tell). map name_of (filter sends ts)) all,
    )

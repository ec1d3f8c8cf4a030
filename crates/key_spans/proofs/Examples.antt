-- The law on the keys of spans at work: a legal run of two stations, in which alice makes a second key,
-- begins it, and retires the first one. And a definition that forgets so, which the law refuses.
use Rattle.std.proofs.Common.{◌≡◌, ◌∙◌, ℕ, Bool, true, false, List, [], ◌∷◌, ◌++◌, Some, None, refl, sym}
use Rattle.std.specs.Prelude.{map, option_map}
use Rattle.std.specs.List.{filter}
use Rattle.lan_base.specs.declared.association_number.AssociationNumber.{AssociationNumber}
use Rattle.lan_base.specs.declared.association_number.AssociationNumber.TheVariants.{An0, An1}
use Rattle.lan_core.specs.declared.fact.Fact.{Fact}
use Rattle.lan_core.specs.declared.fact.Fact.TheVariants as shows
use Rattle.lan_core.specs.declared.fact.Lack.TheVariants.{NoKey}
use Rattle.lan_core.specs.Run.{facts_of}
use Rattle.lan_core.specs.Keys.{held_at}
use Rattle.lan_core.specs.Lives.{transmitting_at}
use Rattle.group_safety.specs.worked.Group.{settings, id, mi, sak}
use Rattle.group_safety.proofs.Public.{users, retiring, retires}
use Rattle.key_spans.specs.declared.span.Span.{Span}
use Rattle.key_spans.specs.declared.span.Why.TheVariants as whys
use Rattle.key_spans.specs.Spans.{spans}
use Rattle.key_spans.specs.Times.{is_held}
use Rattle.key_spans.specs.declared.claim.Attempt.{Attempt}
use Rattle.key_spans.specs.Claims.{claims, refusals}
use Rattle.key_spans.specs.Leaving.{left, parted, resigned}
use Rattle.key_spans.specs.Reigns.{reigns}
use Rattle.key_spans.specs.Held.{KeyName, named, under, keys_where, TellOf}
use Rattle.key_spans.proofs.Runs.{tell-of}

-- ---- alice's keys, by the facts of the run

first_was_retired : spans 0 An0 (facts_of retiring) ≡ record {
  station = 0;
  number = An0;
  id = id 1;
  epoch = 1;
  installed = 2;
  began = Some 3;
  relieved = Some 5;
  ended = Some (record { at = 35; why = whys.Retired });
} ∷ []
first_was_retired = refl

second_transmits : spans 0 An1 (facts_of retiring) ≡ record {
  station = 0;
  number = An1;
  id = id 2;
  epoch = 2;
  installed = 4;
  began = Some 5;
  relieved = None;
  ended = None;
} ∷ []
second_transmits = refl

-- ---- and by the law

tells : TellOf settings retiring
tells = tell-of settings users retiring retires.stepped

abbrev held_under : AssociationNumber → List KeyName
held_under an = named (option_map (λ h. h.key) (held_at settings 0 retiring an))

none_is_held : held_under An0 ≡ []
none_is_held = sym (tells.held 0 An0)

second_is_held : held_under An1 ≡ (id 2, 2) ∷ []
second_is_held = sym (tells.held 0 An1)

it_transmits : named (under An1 (transmitting_at settings 0 retiring)) ≡ (id 2, 2) ∷ []
it_transmits = sym (tells.transmits 0 An1)

-- ---- a definition that forgets what was retired

abbrev is_no_retirement : Fact → Bool
is_no_retirement (shows.Retired s id an) = false
is_no_retirement _ = true

abbrev forgetful : ℕ → AssociationNumber → List Fact → List Span
forgetful s an facts = spans s an (filter is_no_retirement facts)

still_held : keys_where is_held (forgetful 0 An0 (facts_of retiring)) ≡ (id 1, 1) ∷ []
still_held = refl

it_is_refused : keys_where is_held (forgetful 0 An0 (facts_of retiring)) ≡ held_under An0 → ⊥
it_is_refused same = let both : (id 1, 1) ∷ [] ≡ [] = sym still_held ∙ same ∙ none_is_held in cc both

-- ---- a station of two groups: it serves the first, is there last at tick 2, and goes on in the second

abbrev in_both : List Fact
in_both =
    shows.Life 0 (mi 1) ∷ shows.Ticked 0 1 0 ∷ shows.Server 0 (Some (mi 1)) ∷ shows.Installed 0 (id 1) An0 1 (sak 3)
    ∷ shows.Life 16 (mi 2) ∷ shows.Ticked 0 2 0 ∷ shows.Ticked 16 1 0 ∷ []

abbrev gone : List Fact
gone = in_both ++ shows.Ticked 16 2 0 ∷ shows.Ticked 16 3 0 ∷ []

-- a tick in the second group comes behind one in the first
nobody_left : left 0 in_both ≡ None
nobody_left = refl

left_at_2 : left 0 gone ≡ Some 2
left_at_2 = refl

stays_in_the_second : left 16 gone ≡ None
stays_in_the_second = refl

key_ends_at_2 : map (λ x. (parted (left 0 gone) x).ended) (spans 0 An0 gone) ≡ Some (record { at = 2; why = whys.Left }) ∷ []
key_ends_at_2 = refl

reign_is_not_over : reigns 0 gone ≡ record { from = 1; to = None } ∷ []
reign_is_not_over = refl

reign_ends_at_2 : map (resigned (left 0 gone)) (reigns 0 gone) ≡ record { from = 1; to = Some 2 } ∷ []
reign_ends_at_2 = refl

-- another server ends a reign, and one's own election begins one
reigns_twice : reigns 0 (in_both ++ shows.Server 0 (Some (mi 2)) ∷ shows.Ticked 0 3 0 ∷ shows.Server 0 (Some (mi 1)) ∷ [])
    ≡ record { from = 1; to = Some 2 } ∷ record { from = 3; to = None } ∷ []
reigns_twice = refl

-- ---- a station sends under two keys, and once under none

abbrev sending : List Fact
sending =
    shows.Life 0 (mi 1) ∷ shows.Ticked 0 1 0 ∷ shows.Unclaimed 0 NoKey ∷ shows.Claimed 0 An0 1 1 ∷ shows.Ticked 0 2 2
    ∷ shows.Claimed 0 An0 1 2 ∷ shows.Claimed 0 An1 2 1 ∷ []

abbrev got_at : ℕ → ℕ → ℕ → Attempt
got_at at epoch pn = record { at = at; got = Some (record { epoch = epoch; pn = pn }) }

claimed_under_both : (claims 0 An0 sending ≡ got_at 1 1 1 ∷ got_at 2 1 2 ∷ [])
    × (claims 0 An1 sending ≡ got_at 2 2 1 ∷ [])
claimed_under_both = (refl, refl)

refused_once : refusals 0 sending ≡ record { at = 1; got = None } ∷ []
refused_once = refl

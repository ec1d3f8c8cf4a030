-- What is kept stands for one thing more.
use Rattle.std.proofs.Common.{◌≡◌, ◌∙◌, ℕ, Bool, true, false, cond, List, [], ◌∷◌, ◌++◌, Option, Some, None, refl, sym, ap}
use Rattle.std.specs.Prelude.{◌==◌, ◌&&◌}
use Rattle.std.specs.List.{flat_map}
use Rattle.std.specs.Option.{option_or}
use Rattle.std.specs.Map.{lookup}
use Rattle.std.specs.BTreeMap.{insert_entry, is_at}
use Rattle.std.proofs.lemmas.List.{append-nil}
use Rattle.lan_base.specs.declared.address.Mi.{Mi}
use Rattle.lan_base.specs.declared.address.Sci.{Sci}
use Rattle.lan_base.specs.declared.key_id.KeyId.{KeyId}
use Rattle.lan_base.specs.Identifiers.{same_sci}
use Rattle.xpn_numbers.specs.declared.place.Place.{Place}
use Rattle.xpn_numbers.specs.declared.place.Places.{Places}
use Rattle.xpn_numbers.specs.declared.shown.Said.{Said}
use Rattle.xpn_numbers.specs.declared.shown.ShownHigh.{ShownHigh}
use Rattle.xpn_numbers.specs.declared.shown.ShownHighs.{ShownHighs}
use Rattle.xpn_numbers.specs.History.{Entry, Right, Gave, Spoke, Member, first_key, member_cmp, places, places_after, same_id, spoken}
use Rattle.xpn_numbers.specs.Standing.{GroupId, Kept, StandsFor, group_id, group_id_cmp, use_cmp}
use Rattle.xpn_numbers.specs.Candidates.{is_it, shown, shown_beside, shown_by}
use Rattle.xpn_numbers.specs.inside.Keys.{key_in}
use Rattle.xpn_numbers.proofs.Ties.{id-ties, same-group-id, same-use, use-ties}

pub begins : StandsFor [] (record { uses = []; ids = []; members = [] })
begins = record { uses = λ key sci. refl; ids = λ group id. refl; members = refl }

abbrev pub Uses : Type 0
Uses = List ((ℕ × Sci) × Places)

-- ---- right frames

pub noted_right : (history : List Entry) (old new : Kept) (key : ℕ) (sci : Sci) (place : Place) (now : Places) → StandsFor history old
    → now ≡ places_after (places key sci history) place
    → ((q : ℕ × Sci) → lookup (is_at (use_cmp q)) new.uses ≡ cond (is_at (use_cmp (key, sci)) q) (Some now) (lookup (is_at (use_cmp q)) old.uses))
    → new.ids ≡ old.ids → new.members ≡ old.members → StandsFor (Right key sci place ∷ history) new
noted_right history old new key sci place now stands is changes ids members = record {
  uses = λ k s. changes (k, s) ∙ ap (λ b. cond b (Some now) (lookup (is_at (use_cmp (k, s))) old.uses)) (use-ties key k sci s)
      ∙ go k s ((key == k) && same_sci sci s) refl;
  ids = λ group id. ap (λ (e : List (GroupId × ℕ)). lookup (is_at (group_id_cmp (group_id group id))) e) ids ∙ stands.ids group id;
  members = members ∙ stands.members;
} where
  go : (k : ℕ) (s : Sci) (b : Bool) → ((key == k) && same_sci sci s) ≡ b
      → cond b (Some now) (lookup (is_at (use_cmp (k, s))) old.uses) ≡ cond b (Some (places_after (places k s history) place)) (places k s history)
  go k s true e = ap (λ (p : Places). Some p) is ∙ ap (λ (at : ℕ × Sci). Some (places_after (places at.0 at.1 history) place)) (same-use key k sci s e)
  go k s false e = stands.uses k s

-- ---- identifiers

or-some : (o : Option ℕ) (n key : ℕ) → o ≡ Some n → o ≡ option_or o (Some key)
or-some None n key e = absurd (cc e)
or-some (Some m) n key e = refl

-- an identifier that was given
pub given_again : (history : List Entry) (kept : Kept) (group : ℕ) (id : KeyId) (key n : ℕ) → StandsFor history kept
    → lookup (is_at (group_id_cmp (group_id group id))) kept.ids ≡ Some n → StandsFor (Gave group id key ∷ history) kept
given_again history kept group id key n stands there = record {
  uses = stands.uses;
  ids = λ g i. stands.ids g i ∙ go g i ((group == g) && same_id id i) refl;
  members = stands.members;
} where
  go : (g : ℕ) (i : KeyId) (b : Bool) → ((group == g) && same_id id i) ≡ b
      → first_key g i history ≡ cond b (option_or (first_key g i history) (Some key)) (first_key g i history)
  go g i true e =
      or-some (first_key g i history) n key
      (sym (ap (λ (at : ℕ × KeyId). first_key at.0 at.1 history) (same-group-id group g id i e)) ∙ sym (stands.ids group id) ∙ there)
  go g i false e = refl

-- one that is new
pub given_first : (history : List Entry) (old new : Kept) (group : ℕ) (id : KeyId) (key : ℕ) → StandsFor history old
    → lookup (is_at (group_id_cmp (group_id group id))) old.ids ≡ None
    → ((q : GroupId) → lookup (is_at (group_id_cmp q)) new.ids ≡ cond (is_at (group_id_cmp (group_id group id)) q) (Some key) (lookup (is_at (group_id_cmp q)) old.ids))
    → new.uses ≡ old.uses → new.members ≡ old.members → StandsFor (Gave group id key ∷ history) new
given_first history old new group id key stands none changes uses members = record {
  uses = λ k s. ap (λ (e : Uses). lookup (is_at (use_cmp (k, s))) e) uses ∙ stands.uses k s;
  ids = λ g i. changes (group_id g i)
      ∙ ap (λ b. cond b (Some key) (lookup (is_at (group_id_cmp (group_id g i))) old.ids)) (id-ties group g id i)
      ∙ go g i ((group == g) && same_id id i) refl;
  members = members ∙ stands.members;
} where
  go : (g : ℕ) (i : KeyId) (b : Bool) → ((group == g) && same_id id i) ≡ b
      → cond b (Some key) (lookup (is_at (group_id_cmp (group_id g i))) old.ids)
      ≡ cond b (option_or (first_key g i history) (Some key)) (first_key g i history)
  go g i true e =
      ap (λ (o : Option ℕ). option_or o (Some key))
      (sym (sym (ap (λ (at : ℕ × KeyId). first_key at.0 at.1 history) (same-group-id group g id i e)) ∙ sym (stands.ids group id) ∙ none))
  go g i false e = stands.ids g i

-- ---- members

pub noted_spoken : (history : List Entry) (old new : Kept) (group : ℕ) (mi : Mi) (nanos : ℕ) (what : ShownHighs) → StandsFor history old
    → new.members ≡ insert_entry member_cmp old.members (group, mi) (record { nanos = nanos; shown = what })
    → new.uses ≡ old.uses → new.ids ≡ old.ids → StandsFor (Spoke group mi nanos what ∷ history) new
noted_spoken history old new group mi nanos what stands members uses ids = record {
  uses = λ k s. ap (λ (e : Uses). lookup (is_at (use_cmp (k, s))) e) uses ∙ stands.uses k s;
  ids = λ g i. ap (λ (e : List (GroupId × ℕ)). lookup (is_at (group_id_cmp (group_id g i))) e) ids ∙ stands.ids g i;
  members = members ∙ ap (λ (e : List (Member × Said)). insert_entry member_cmp e (group, mi) (record { nanos = nanos; shown = what })) stands.members;
}

-- ---- what is shown

abbrev pub shown_kept : Kept → ℕ → ℕ → List (Member × Said) → List ℕ
shown_kept kept key now entries = flat_map (shown_by (key_in kept.ids) key now) entries

pub shown_is : (history : List Entry) (kept : Kept) (key now : ℕ) → StandsFor history kept → shown_kept kept key now kept.members ≡ shown history key now
shown_is history kept key now stands =
    λ t. flat_map (shown_by (λ group id. stands.ids group id t) key now) (stands.members t)

-- nothing is left of the members that were gone over
pub all_shown : (kept : Kept) (key now : ℕ) (highs : List ℕ) (left : List (Member × Said)) → highs ++ shown_kept kept key now left ≡ shown_kept kept key now kept.members → left ≡ []
    → highs ≡ shown_kept kept key now kept.members
all_shown kept key now highs left both none =
    sym (append-nil highs) ∙ ap (λ (xs : List (Member × Said)). highs ++ shown_kept kept key now xs) (sym none) ∙ both

-- one that is shown beside an identifier of the key, and one that isn't
pub shows_it : (key_of : ℕ → KeyId → Option ℕ) (group key : ℕ) (shown : Option ShownHigh) (s : ShownHigh) (found : Option ℕ)
    → shown ≡ Some s → found ≡ key_of group s.id → is_it found key ≡ true → shown_beside key_of group key shown ≡ s.high ∷ []
shows_it key_of group key shown s found e f is =
    ap (shown_beside key_of group key) e ∙ ap (λ (o : Option ℕ). cond (is_it o key) (s.high ∷ []) []) (sym f) ∙ ap (λ (b : Bool). cond b (s.high ∷ []) []) is

pub shows_another : (key_of : ℕ → KeyId → Option ℕ) (group key : ℕ) (shown : Option ShownHigh) (s : ShownHigh) (found : Option ℕ)
    → shown ≡ Some s → found ≡ key_of group s.id → is_it found key ≡ false → shown_beside key_of group key shown ≡ []
shows_another key_of group key shown s found e f is =
    ap (shown_beside key_of group key) e ∙ ap (λ (o : Option ℕ). cond (is_it o key) (s.high ∷ []) []) (sym f) ∙ ap (λ (b : Bool). cond b (s.high ∷ []) []) is

-- The frames on the air of a run are those that are told.
use Rattle.std.proofs.Common.{◌≡◌, refl, ap, ◌∙◌, ℕ, List, [], ◌∷◌, ◌++◌, Bool, true, false}
use Rattle.std.proofs.Common.{Option, Some, None}
use Rattle.std.specs.Prelude.{◌==◌, option_map, is_none}
use Rattle.std.specs.List.{list_all, find}
use Rattle.std.proofs.lemmas.Bool.{and_parts}
use Rattle.sak_exchange.proofs.Public.{by_test}
use Rattle.lan_core.specs.declared.fact.Fact.{Fact}
use Rattle.lan_core.specs.Ledgers.{Frame, framed, gather, with_one, air, frame_at}
use Rattle.group_safety.specs.worked.Group.{profile}
use Rattle.group_safety.specs.worked.Deeds.{whole, framed_by, carried, Deed, tells, emits, plain}
use Rattle.group_safety.specs.worked.Deeds.{told, run_of, Paper, says, carries, on_air}

-- the octets of a frame
abbrev pub octets_in : Paper → List ℕ
octets_in (says s a g) = framed_by (profile s) (whole a g)
octets_in (carries pn) = carried pn

-- nothing but what is told comes on the air
abbrev pub is_unframed : Fact → Bool
is_unframed fact = is_none (framed fact)

abbrev pub is_bare : Deed → Bool
is_bare (tells s next f m a g) = list_all is_unframed f
is_bare (emits m pn) = true
is_bare (plain e f) = list_all is_unframed f

gather-none : (f : List Fact) (xs : List Frame) → list_all is_unframed f ≡ true
    → gather framed f xs ≡ xs
gather-none [] xs all = refl
gather-none (y ∷ f) xs all =
    let p = and_parts (is_unframed y) (list_all is_unframed f) all in
    ap (λ o. gather framed f (with_one o xs)) (none (framed y) p.0) ∙ gather-none f xs p.1
  where
    none : (o : Option Frame) → is_none o ≡ true → o ≡ None
    none None e = refl
    none (Some y) e = absurd (cc (e))

gather-last : (f : List Fact) (y : Fact) (xs : List Frame)
    → gather framed (f ++ y ∷ []) xs ≡ with_one (framed y) (gather framed f xs)
gather-last [] y xs = refl
gather-last (x ∷ f) y xs = gather-last f y (with_one (framed x) xs)

abbrev octets_at : List Frame → ℕ → Option (List ℕ)
octets_at fs n = option_map (λ (f : Frame). f.octets) (find (λ (f : Frame). f.number == n) fs)

octets-of : (ds : List Deed) → list_all is_bare ds ≡ true → (n : ℕ)
    → octets_at (air (run_of ds)) n ≡ option_map octets_in (on_air ds n)
unfolding air
octets-of [] bare n = refl
octets-of (tells s next f m a g ∷ ds) bare n =
    let p = and_parts (list_all is_unframed f) (list_all is_bare ds) bare in
    let y : Frame = record {
      number = m;
      station = s;
      sec = false;
      octets = framed_by (profile s) (whole a g);
    } in
    ap (λ fs. octets_at fs n) (gather-last f (told m s a g) (air (run_of ds))
    ∙ ap (λ fs. y ∷ fs) (gather-none f (air (run_of ds)) p.0))
    ∙ by_test (m == n) (λ t. rw t refl) (λ t. rw t (octets-of ds p.1 n))
octets-of (emits m pn ∷ ds) bare n =
    by_test (m == n) (λ t. rw t refl) (λ t. rw t (octets-of ds bare n))
octets-of (plain e f ∷ ds) bare n =
    let p = and_parts (list_all is_unframed f) (list_all is_bare ds) bare in
    ap (λ fs. octets_at fs n) (gather-none f (air (run_of ds)) p.0) ∙ octets-of ds p.1 n

-- what a frame of the run is
pub frame-octets : (ds : List Deed) → list_all is_bare ds ≡ true → (n : ℕ)
    → option_map (λ (f : Frame). f.octets) (frame_at (run_of ds) n)
    ≡ option_map octets_in (on_air ds n)
frame-octets ds bare n = octets-of ds bare n

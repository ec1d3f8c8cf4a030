-- A frame that spells an announcement is read as that announcement.
use Rattle.std.specs.Prelude.{◌&&◌, ◌||◌}
use Rattle.std.specs.List.{AllByRecursion, find}
use Rattle.std.proofs.Common.{◌≡◌, ◌≢◌, ℕ, ◌+◌, ◌-◌, ◌*◌, ◌/◌, ◌%◌, ◌≤◌, ◌⊎◌, inl, inr, true, false, leb, eqb, List, [], ◌∷◌, ◌++◌, length, get_or, take, drop, Option, Some, None, Ok, refl, sym, ap, subst, ◌∙◌, arith, length-append, eq-eqb}
use Rattle.std.proofs.Math.Bool.{or-true}
use Rattle.std.proofs.lemmas.Bool.{eqb-true, le-leb, ne_eqb}
use Rattle.std.proofs.lemmas.List.{take_at, drop_at}
use Rattle.std.proofs.lemmas.List.Elements.{recursion_from_All}
use Rattle.byteorder.specs.Endian.{big_bytes}
use Rattle.lan_base.specs.declared.address.Mac.{Mac}
use Rattle.mkpdu_codec.specs.declared.announcement.Announcement.{Announcement}
use Rattle.mkpdu_codec.specs.declared.given.Given.{Given}
use Rattle.mkpdu_codec.specs.declared.key_use.Uses.{Uses}
use Rattle.mkpdu_codec.specs.declared.peer.Peer.{Peer}
use Rattle.mkpdu_codec.specs.Sets.{missing, uses_body, IsPeer, IsKey}
use Rattle.mkpdu_codec.specs.Frames.{Set, IsSet, AreSets, IsIndicator, Frame, IsFrame, IsBody, covered_octets, octets_of, the, SpellsPeers, SpellsUses, SpellsGiven, has_highs, Spells}
use Rattle.mkpdu_codec.specs.Refusals.{is_mka, is_long_enough, body_length}
use Rattle.mkpdu_codec.specs.Fields.{set_at, basic_at, peers_in, uses_in, given_in, highs_in}
use Rattle.mkpdu_codec.specs.Reading.{Inner, Gathered, nothing, parts_at, announcement_of, reading}
use Rattle.mkpdu_codec.proofs.SetOctets.{set_at-is}
use Rattle.mkpdu_codec.proofs.Header.{parts_are}
use Rattle.mkpdu_codec.proofs.Again.{basics_of_announcement, basic_again, length-basic, length-peers_body, peers_again, uses_again, given_again, highs_again}
use Rattle.mkpdu_codec.proofs.Walking.{IsShaped, all_placed, once_from_nothing, gathered_again, only_one}

-- ---- the header

pub by_six : (P : List ℕ → Type 0) → ((a b c d e f : ℕ) → P (a ∷ b ∷ c ∷ d ∷ e ∷ f ∷ [])) → (xs : List ℕ) → length xs ≡ 6 → P xs
by_six P all [] len = absurd (omega arith)
by_six P all (a ∷ []) len = absurd (omega arith)
by_six P all (a ∷ b ∷ []) len = absurd (omega arith)
by_six P all (a ∷ b ∷ c ∷ []) len = absurd (omega arith)
by_six P all (a ∷ b ∷ c ∷ d ∷ []) len = absurd (omega arith)
by_six P all (a ∷ b ∷ c ∷ d ∷ e ∷ []) len = absurd (omega arith)
by_six P all (a ∷ b ∷ c ∷ d ∷ e ∷ f ∷ []) len = all a b c d e f
by_six P all (a ∷ b ∷ c ∷ d ∷ e ∷ f ∷ g ∷ xs) len = absurd (omega arith)

abbrev laid : ℕ → ℕ → ℕ → ℕ → ℕ → ℕ → ℕ → ℕ → ℕ → ℕ → ℕ → ℕ → ℕ → ℕ → ℕ → List ℕ → List ℕ
laid a b c d e f g h i j k l v hi lo rest = a ∷ b ∷ c ∷ d ∷ e ∷ f ∷ g ∷ h ∷ i ∷ j ∷ k ∷ l ∷ 0x88 ∷ 0x8e ∷ v ∷ 5 ∷ hi ∷ lo ∷ rest

abbrev inner : List ℕ → List ℕ → List ℕ → Inner
inner source sets check = record { source = record { 0 = source }; sets = sets; covered = 18 + length sets; check = check }

module _ (a b c d e f g h i j k l v hi lo : ℕ) (body check behind : List ℕ) where
  abbrev frame : List ℕ
  frame = laid a b c d e f g h i j k l v hi lo (body ++ (check ++ behind))

  laid_mka : a % 2 ≡ 1 → is_mka frame ≡ true
  laid_mka group =
      let long : leb 18 (length frame) ≡ true = le-leb 18 (length frame) (omega arith) in
      let odd : eqb (a % 2) 1 ≡ true = eq-eqb (a % 2) 1 group in
      rw (long, odd) refl

  laid_length : hi * 256 + lo ≡ length body + 16 → body_length frame ≡ length body + 16
  laid_length states = omega (arith, states)

  laid_long : hi * 256 + lo ≡ length body + 16 → 16 ≤ length body → length body % 4 ≡ 0 → length check ≡ 16 → is_long_enough frame ≡ true
  laid_long states some fours sixteen = subst (λ (n : ℕ). (leb 32 n && eqb (n % 4) 0 && leb (18 + n) (length frame)) ≡ true) (sym (laid_length states)) go where
    go : (leb 32 (length body + 16) && eqb ((length body + 16) % 4) 0 && leb (18 + (length body + 16)) (length frame)) ≡ true
    go =
        let x : leb 32 (length body + 16) ≡ true = le-leb 32 (length body + 16) (omega (arith, some)) in
        let y : eqb ((length body + 16) % 4) 0 ≡ true = eq-eqb ((length body + 16) % 4) 0 (omega (arith, fours)) in
        let z : leb (18 + (length body + 16)) (length frame) ≡ true = le-leb (18 + (length body + 16)) (length frame) (omega (arith, sixteen, length-append body (check ++ behind), length-append check behind)) in
        rw (x, y, z) refl

  laid_parts : a % 2 ≡ 1 → hi * 256 + lo ≡ length body + 16 → 16 ≤ length body → length body % 4 ≡ 0 → length check ≡ 16
      → parts_at frame ≡ Ok (inner (g ∷ h ∷ i ∷ j ∷ k ∷ l ∷ []) body check)
  laid_parts group states some fours sixteen =
      let n : body_length frame - 16 ≡ length body = omega (arith, laid_length states) in
      let sets : body ≡ take (body_length frame - 16) (drop 18 frame) = sym (ap (λ (m : ℕ). take m (body ++ (check ++ behind))) n ∙ take_at body (check ++ behind) (length body) refl) in
      let rest : drop (body_length frame - 16) (drop 18 frame) ≡ check ++ behind = ap (λ (m : ℕ). drop m (body ++ (check ++ behind))) n ∙ drop_at body (check ++ behind) (length body) refl in
      let checked : check ≡ take 16 (drop (body_length frame - 16) (drop 18 frame)) = sym (ap (take 16) rest ∙ take_at check behind 16 sixteen) in
      parts_are frame (g ∷ h ∷ i ∷ j ∷ k ∷ l ∷ []) body check (laid_mka group) (laid_long states some fours sixteen) refl sets checked

pub parts_again : (p : Frame) → IsFrame p → 16 ≤ length p.body → length p.body % 4 ≡ 0 → parts_at (octets_of p) ≡ Ok (inner p.source p.body p.check)
parts_again p is some fours =
    by_six (λ dest. get_or dest 0 0 % 2 ≡ 1 → parts_at (at dest p.source) ≡ Ok (inner p.source p.body p.check)) (λ a b c d e f. λ group.
    by_six (λ source. parts_at (at (a ∷ b ∷ c ∷ d ∷ e ∷ f ∷ []) source) ≡ Ok (inner source p.body p.check)) (λ g h i j k l.
    laid_parts a b c d e f g h i j k l p.version ((length p.body + 16) / 256 % 256) ((length p.body + 16) % 256) p.body p.check p.behind group (omega (arith, is.body)) some fours is.check
    ) p.source is.source
    ) p.destination is.destination is.group where
      at : List ℕ → List ℕ → List ℕ
      at dest source = octets_of (record { destination = dest; source = source; version = p.version; body = p.body; check = p.check; behind = p.behind })

pub length-covered : (p : Frame) → IsFrame p → length (covered_octets p) ≡ 18 + length p.body
length-covered p is =
    omega (arith, is.destination, is.source, length-append p.destination (p.source ++ (0x88 ∷ 0x8e ∷ p.version ∷ 5 ∷ (big_bytes 2 (length p.body + 16) ++ p.body))), length-append p.source (0x88 ∷ 0x8e ∷ p.version ∷ 5 ∷ (big_bytes 2 (length p.body + 16) ++ p.body)))

-- ---- the lengths of the sets

pub length-IsSet : (front : List ℕ) (s : Set) → IsSet front s → length front ≡ 4 + (length s.body + missing (length s.body))
length-IsSet front s is = omega (arith, ap length is.whole, is.padded, length-append s.body is.padding)

fours_of_set : (front : List ℕ) (s : Set) → IsSet front s → length front % 4 ≡ 0
fours_of_set front s is = let len = length-IsSet front s is in omega (arith, len)

fours_of_sets : (middle : List ℕ) (ss : List Set) → AreSets middle ss → length middle % 4 ≡ 0
fours_of_sets middle [] are = rw are refl
fours_of_sets middle (s ∷ ss) are =
    let x = fours_of_set are.0 s are.1.1.1 in
    let y = fours_of_sets are.1.0 ss are.1.1.2 in
    omega (arith, x, y, ap length are.1.1.0, length-append are.0 are.1.0)

fours_of_indicator : (indicator : List ℕ) → (indicator ≡ []) ⊎ IsIndicator indicator → length indicator % 4 ≡ 0
fours_of_indicator indicator (inl e) = rw e refl
fours_of_indicator indicator (inr is) = rw is.whole refl

pub fours_of_body : (body : List ℕ) (basic : Set) (others : List Set) → IsBody body basic others → length body % 4 ≡ 0
fours_of_body body basic others is =
    let x = fours_of_set is.front basic is.is_basic in
    let y = fours_of_sets is.middle others is.are_others in
    let z = fours_of_indicator is.indicator is.is_indicator in
    omega (arith, x, y, z, ap length is.whole, length-append is.front (is.middle ++ is.indicator), length-append is.middle is.indicator)

-- ---- the shapes of the sets

shape_of_peers : (s : Set) (ps : List Peer) → SpellsPeers s ps → eqb (length s.body % 16) 0 ≡ true
shape_of_peers s ps spells =
    let len = length-peers_body ps (recursion_from_All IsPeer ps spells.are_peers) in
    eq-eqb (length s.body % 16) 0 (omega (arith, len, ap length spells.body))

pub length-uses_body : (u : Uses) → IsKey u.latest → IsKey u.old → length (uses_body u) ≡ 40
length-uses_body u x y = simp length-append (omega (arith, x.server, y.server))

shape_of_uses : (s : Set) (u : Option Uses) → SpellsUses s u → (eqb (length s.body) 0 || eqb (length s.body) 40) ≡ true
shape_of_uses s None spells = rw spells refl
shape_of_uses s (Some u) spells = let len : length s.body ≡ 40 = ap length spells.1 ∙ length-uses_body u spells.2 spells.3 in rw len refl

long_enough : (n : ℕ) → 4 ≤ n → (eqb n 0 || leb 4 n) ≡ true
long_enough n le = rw (le-leb 4 n le) (or-true (eqb n 0))

shape_of_given : (s : Set) (g : Option Given) → SpellsGiven s g → (eqb (length s.body) 0 || leb 4 (length s.body)) ≡ true
shape_of_given s None spells = rw spells refl
shape_of_given s (Some g) spells = long_enough (length s.body) (omega (arith, ap length spells.body))

module _ (all : List Set) (a : Announcement) (live : SpellsPeers (the 1 all) a.live) (potential : SpellsPeers (the 2 all) a.potential) (uses : SpellsUses (the 3 all) a.uses) (given : SpellsGiven (the 4 all) a.given) where
  shape_of : (s : Set) → (s.kind ≡ 1 → the 1 all ≡ s) → (s.kind ≡ 2 → the 2 all ≡ s) → (s.kind ≡ 3 → the 3 all ≡ s) → (s.kind ≡ 4 → the 4 all ≡ s) → s.kind ≢ 255 → IsShaped s
  shape_of s one two three four other =
      elim (eqb s.kind 1) as (λ t. eqb s.kind 1 ≡ t → IsShaped s) [
        | true ↦ λ e. let here = subst (λ (x : Set). eqb (length x.body % 16) 0 ≡ true) (one (eqb-true s.kind 1 e)) (shape_of_peers (the 1 all) a.live live) in rw (e, here) refl
        | false ↦ λ e1. elim (eqb s.kind 2) as (λ t. eqb s.kind 2 ≡ t → IsShaped s) [
          | true ↦ λ e. let here = subst (λ (x : Set). eqb (length x.body % 16) 0 ≡ true) (two (eqb-true s.kind 2 e)) (shape_of_peers (the 2 all) a.potential potential) in rw (e1, e, here) refl
          | false ↦ λ e2. elim (eqb s.kind 3) as (λ t. eqb s.kind 3 ≡ t → IsShaped s) [
            | true ↦ λ e. let here = subst (λ (x : Set). (eqb (length x.body) 0 || eqb (length x.body) 40) ≡ true) (three (eqb-true s.kind 3 e)) (shape_of_uses (the 3 all) a.uses uses) in rw (e1, e2, e, here) refl
            | false ↦ λ e3. elim (eqb s.kind 4) as (λ t. eqb s.kind 4 ≡ t → IsShaped s) [
              | true ↦ λ e. let here = subst (λ (x : Set). (eqb (length x.body) 0 || leb 4 (length x.body)) ≡ true) (four (eqb-true s.kind 4 e)) (shape_of_given (the 4 all) a.given given) in rw (e1, e2, e3, e, here) refl
              | false ↦ λ e4. let off = ne_eqb s.kind 255 other in rw (e1, e2, e3, e4, off) refl
            ] refl
          ] refl
        ] refl
      ] refl

  all_shaped : (ss : List Set) → AllByRecursion (λ s. s.kind ≡ 1 → the 1 all ≡ s) ss → AllByRecursion (λ s. s.kind ≡ 2 → the 2 all ≡ s) ss → AllByRecursion (λ s. s.kind ≡ 3 → the 3 all ≡ s) ss
      → AllByRecursion (λ s. s.kind ≡ 4 → the 4 all ≡ s) ss → AllByRecursion (λ s. s.kind ≢ 255) ss → AllByRecursion IsShaped ss
  all_shaped [] one two three four other = tt
  all_shaped (s ∷ ss) one two three four other = (shape_of s one.0 two.0 three.0 four.0 other.0, all_shaped ss one.1 two.1 three.1 four.1 other.1)

-- ---- the whole frame

told_is : (a : Announcement) (source : Mac) (h : Gathered) → source ≡ a.source → peers_in h.live ≡ a.live → peers_in h.potential ≡ a.potential → uses_in h.uses ≡ a.uses → given_in h.given ≡ a.given → highs_in h.highs ≡ a.highs
    → announcement_of source (basics_of_announcement a) h ≡ a
told_is a source h e1 e2 e3 e4 e5 e6 = rw (e1, e2, e3, e4, e5, e6) refl

pub read_again : (frame : List ℕ) (a : Announcement) (covered : ℕ) (check : List ℕ) → Spells frame a covered check
    → reading frame ≡ Ok (record { announcement = a; covered = covered; check = check })
unfolding reading basic_at
read_again frame a covered check s =
    let body = s.is_body in
    let rest : List ℕ = body.middle ++ body.indicator in
    let len = length-basic s.basic a s.says in
    let some : 16 ≤ length s.parts.body = omega (arith, len, s.says.named.0, ap length body.whole, length-append body.front rest, length-IsSet body.front s.basic body.is_basic) in
    let parts = parts_again s.parts s.is_frame some (fours_of_body s.parts.body s.basic s.others body) in
    let basic : set_at s.parts.body ≡ Some (s.basic, rest) = ap set_at body.whole ∙ set_at-is body.front rest s.basic body.is_basic in
    let placed_h = all_placed s.others nothing (once_from_nothing s.others body.once) in
    let shaped = all_shaped s.others a s.live s.potential s.uses s.given s.others (only_one 1 s.others (body.once 1 (omega arith) (omega arith))) (only_one 2 s.others (body.once 2 (omega arith) (omega arith))) (only_one 3 s.others (body.once 3 (omega arith) (omega arith))) (only_one 4 s.others (body.once 4 (omega arith) (omega arith))) (recursion_from_All (λ t. t.kind ≢ 255) s.others body.no_indicator) in
    let walk = gathered_again (length rest) (18 + length s.parts.body) s.others nothing placed_h.0 body.middle body.indicator body.are_others body.is_indicator shaped placed_h.1.0 (omega arith) in
    let covers : covered ≡ 18 + length s.parts.body = s.covers ∙ length-covered s.parts s.is_frame in
    let source : Mac = record { 0 = s.parts.source } in
    let from : source ≡ a.source = ap (λ (x : List ℕ). let m : Mac = record { 0 = x } in m) (sym s.source) in
    let told = told_is a source placed_h.0 from
    (ap peers_in (placed_h.1.1.0 1 refl) ∙ peers_again 1 s.others a.live s.live) (ap peers_in (placed_h.1.1.0 2 refl) ∙ peers_again 2 s.others a.potential s.potential)
    (ap uses_in (placed_h.1.1.0 3 refl) ∙ uses_again 3 s.others a.uses s.uses) (ap given_in (placed_h.1.1.0 4 refl) ∙ given_again 4 s.others a.given s.given) (ap highs_in placed_h.1.1.1 ∙ highs_again (find has_highs s.others) a.highs s.highs) in
    ap reading s.whole ∙ rw (parts, basic, basic_again s.basic a s.says, walk, told, ← covers, ← s.checked) refl

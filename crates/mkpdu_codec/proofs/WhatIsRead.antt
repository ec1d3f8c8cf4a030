-- A frame that is read spells what was read.
use Rattle.std.specs.Prelude.{◌&&◌, not}
use Rattle.std.specs.List.{AllByRecursion, find}
use Rattle.std.proofs.Common.{◌≡◌, ◌≢◌, ℕ, ◌+◌, ◌-◌, ◌*◌, ◌/◌, ◌%◌, ◌<◌, ◌≤◌, ◌⊎◌, inl, inr, Bool, true, false, cond, leb, eqb, List, [], ◌∷◌, ◌++◌, length, get_or, take, drop, Option, Some, Result, Ok, Err, refl, sym, ap, subst, ◌∙◌, arith, length-append, length-drop, length-take, append_assoc}
use Rattle.std.proofs.lemmas.Bool.{eqb-true, leb-true, le-leb, and_parts}
use Rattle.std.proofs.lemmas.List.{nil_from_length, take-append-drop, drop-drop, get_or-take, get_or-drop}
use Rattle.std.proofs.lemmas.Bool.Decides.{Decides-eqb}
use Rattle.std.proofs.lemmas.Slice.Eq.{starts_is}
use Rattle.std.proofs.lemmas.List.Elements.{All-from_recursion}
use Rattle.byteorder.specs.Endian.{big_bytes, big_number}
use Rattle.lan_base.specs.declared.address.Mac.{Mac}
use Rattle.mkpdu_codec.specs.declared.announcement.Announcement.{Announcement}
use Rattle.mkpdu_codec.specs.declared.refusal.Refusal.{Refusal}
use Rattle.mkpdu_codec.specs.declared.refusal.Refusal.TheVariants.{Agility}
use Rattle.mkpdu_codec.specs.declared.spelled.Spelled.{Spelled}
use Rattle.mkpdu_codec.specs.Sets.{agility}
use Rattle.mkpdu_codec.specs.Frames.{Set, Frame, IsFrame, covered_octets, octets_of, the, SpellsPeers, SpellsUses, SpellsGiven, SpellsBasic, has_highs, SpellsHighs, Spells}
use Rattle.mkpdu_codec.specs.Refusals.{is_mka, is_long_enough, body_length, check_place, sets_of, others_of, is_basic, is_whole, is_single, is_known, front_length, front_size, refused}
use Rattle.mkpdu_codec.specs.Fields.{peers_in, uses_in, given_in, highs_in}
use Rattle.mkpdu_codec.specs.Reading.{◌>>=◌, Gathered, nothing, gathered, parts_at, announcement_of, reading}
use Rattle.mkpdu_codec.proofs.Header.{long_enough-32, long_enough-whole, length-sets_of}
use Rattle.mkpdu_codec.proofs.SetOctets.{IsBytes, IsBytes-drop, front_set, set_at-is_set, length-front_set}
use Rattle.mkpdu_codec.proofs.Order.{error_of, refused-is, basics_in, basic_at-is, basic_at-not}
use Rattle.mkpdu_codec.proofs.Walking.{shaped_kind}
use Rattle.mkpdu_codec.proofs.FrameAgain.{by_six}
use Rattle.mkpdu_codec.proofs.Gathering.{IsBytes-take, IsRead, walked, all_held}
use Rattle.mkpdu_codec.proofs.Sound.{number_front, number_below, bit_of, peers_are, uses_are, given_are, highs_are}

-- a list of six is its six octets
six : (xs : List ℕ) → length xs ≡ 6 → xs ≡ get_or xs 0 0 ∷ get_or xs 1 0 ∷ get_or xs 2 0 ∷ get_or xs 3 0 ∷ get_or xs 4 0 ∷ get_or xs 5 0 ∷ []
six xs len = by_six (λ ys. ys ≡ get_or ys 0 0 ∷ get_or ys 1 0 ∷ get_or ys 2 0 ∷ get_or ys 3 0 ∷ get_or ys 4 0 ∷ get_or ys 5 0 ∷ []) (λ a b c d e f. refl) xs len

-- what the header says
record Says (frame : List ℕ) : Type 0 where
  long : 18 ≤ length frame
  first_type : get_or frame 12 0 ≡ 0x88
  second_type : get_or frame 13 0 ≡ 0x8e
  packet : get_or frame 15 0 ≡ 5
  group : get_or frame 0 0 % 2 ≡ 1

says_of : (frame : List ℕ) → is_mka frame ≡ true → Says frame
says_of frame m =
    let a = and_parts (leb 18 (length frame) && eqb (get_or frame 12 0) 0x88 && eqb (get_or frame 13 0) 0x8e && eqb (get_or frame 15 0) 5) (eqb (get_or frame 0 0 % 2) 1) m in
    let b = and_parts (leb 18 (length frame) && eqb (get_or frame 12 0) 0x88 && eqb (get_or frame 13 0) 0x8e) (eqb (get_or frame 15 0) 5) a.0 in
    let c = and_parts (leb 18 (length frame) && eqb (get_or frame 12 0) 0x88) (eqb (get_or frame 13 0) 0x8e) b.0 in
    let d = and_parts (leb 18 (length frame)) (eqb (get_or frame 12 0) 0x88) c.0 in
    record { long = leb-true 18 (length frame) d.0; first_type = eqb-true _ _ d.1; second_type = eqb-true _ _ c.1; packet = eqb-true _ _ b.1; group = eqb-true _ _ a.1 }

module _ (frame : List ℕ) (bytes : IsBytes frame) (m : is_mka frame ≡ true) (l : is_long_enough frame ≡ true) where
  says : Says frame
  says = says_of frame m

  abbrev body : List ℕ
  body = sets_of frame

  abbrev parts : Frame
  parts = record { destination = take 6 frame; source = take 6 (drop 6 frame); version = get_or frame 14 0; body = sets_of frame; check = take 16 (drop (check_place frame) frame); behind = drop 16 (drop (check_place frame) frame) }

  stated : body_length frame ≡ get_or frame 16 0 * 256 + get_or frame 17 0
  stated = let a = get_or-drop 16 frame 0 0 in let b = get_or-drop 16 frame 1 0 in omega (arith, a, b)

  body_states : length body + 16 ≡ get_or frame 16 0 * 256 + get_or frame 17 0
  body_states = let a = length-sets_of frame l in let some = long_enough-32 frame l in omega (arith, a, some, stated)

  length_octets : big_bytes 2 (length body + 16) ≡ get_or frame 16 0 ∷ get_or frame 17 0 ∷ []
  length_octets = rw body_states (two (get_or frame 16 0) (get_or frame 17 0) (bytes 16) (bytes 17)) where
    two : (hi lo : ℕ) → hi < 256 → lo < 256 → big_bytes 2 (hi * 256 + lo) ≡ hi ∷ lo ∷ []
    two hi lo h k =
        let a : (hi * 256 + lo) / 256 % 256 ≡ hi = omega arith in
        let b : (hi * 256 + lo) % 256 ≡ lo = omega arith in
        rw (a, b) refl

  middle_six : take 6 (drop 12 frame) ≡ 0x88 ∷ 0x8e ∷ get_or frame 14 0 ∷ 5 ∷ big_bytes 2 (length body + 16)
  middle_six =
      six (take 6 (drop 12 frame)) (omega (arith, says.long, length-take 6 (drop 12 frame), length-drop 12 frame))
      ∙ rw (at 0 (omega arith), at 1 (omega arith), at 2 (omega arith), at 3 (omega arith), at 4 (omega arith), at 5 (omega arith), says.first_type, says.second_type, says.packet, length_octets) refl where
        at : (i : ℕ) → i < 6 → get_or (take 6 (drop 12 frame)) i 0 ≡ get_or frame (12 + i) 0
        at i lt = get_or-take 6 (drop 12 frame) i 0 lt ∙ get_or-drop 12 frame i 0

  rest_is : drop (body_length frame - 16) (drop 18 frame) ≡ take 16 (drop (check_place frame) frame) ++ drop 16 (drop (check_place frame) frame)
  rest_is = drop-drop (body_length frame - 16) 18 frame ∙ sym (take-append-drop 16 (drop (check_place frame) frame))

  behind_header : drop 18 frame ≡ body ++ (take 16 (drop (check_place frame) frame) ++ drop 16 (drop (check_place frame) frame))
  behind_header = sym (take-append-drop (body_length frame - 16) (drop 18 frame)) ∙ ap (λ (x : List ℕ). body ++ x) rest_is

  whole : frame ≡ octets_of parts
  whole =
      let d : drop 12 frame ≡ take 6 (drop 12 frame) ++ drop 18 frame = sym (take-append-drop 6 (drop 12 frame)) ∙ ap (λ (x : List ℕ). take 6 (drop 12 frame) ++ x) (drop-drop 6 12 frame) in
      let s : drop 6 frame ≡ take 6 (drop 6 frame) ++ drop 12 frame = sym (take-append-drop 6 (drop 6 frame)) ∙ ap (λ (x : List ℕ). take 6 (drop 6 frame) ++ x) (drop-drop 6 6 frame) in
      let tail : List ℕ = take 16 (drop (check_place frame) frame) ++ drop 16 (drop (check_place frame) frame) in
      let last : drop 12 frame ≡ (0x88 ∷ 0x8e ∷ get_or frame 14 0 ∷ 5 ∷ (big_bytes 2 (length body + 16) ++ body)) ++ tail =
      d ∙ ap (λ (x : List ℕ). x ++ drop 18 frame) middle_six ∙ ap (λ (x : List ℕ). (0x88 ∷ 0x8e ∷ get_or frame 14 0 ∷ 5 ∷ big_bytes 2 (length body + 16)) ++ x) behind_header in
      sym (take-append-drop 6 frame) ∙ ap (λ (x : List ℕ). take 6 frame ++ x) (s ∙ ap (λ (x : List ℕ). take 6 (drop 6 frame) ++ x) last)
      ∙ ap (λ (x : List ℕ). take 6 frame ++ x) (sym (append_assoc (take 6 (drop 6 frame)) (0x88 ∷ 0x8e ∷ get_or frame 14 0 ∷ 5 ∷ (big_bytes 2 (length body + 16) ++ body)) tail))
      ∙ sym (append_assoc (take 6 frame) (take 6 (drop 6 frame) ++ (0x88 ∷ 0x8e ∷ get_or frame 14 0 ∷ 5 ∷ (big_bytes 2 (length body + 16) ++ body))) tail)

  parts_are_frame : IsFrame parts
  parts_are_frame =
      let ends = long_enough-whole frame l in
      record {
        destination = omega (arith, says.long, length-take 6 frame);
        group = rw (get_or-take 6 frame 0 0 (omega arith)) says.group;
        source = omega (arith, says.long, length-take 6 (drop 6 frame), length-drop 6 frame);
        body = omega (arith, body_states, bytes 16, bytes 17);
        check = go (body_length frame) (long_enough-32 frame l) ends;
      } where
        go : (n : ℕ) → 32 ≤ n → 18 + n ≤ length frame → length (take 16 (drop (18 + (n - 16)) frame)) ≡ 16
        go n some le = omega (arith, some, le, length-take 16 (drop (18 + (n - 16)) frame), length-drop (18 + (n - 16)) frame)

  covers : check_place frame ≡ length (covered_octets parts)
  covers =
      let a = length-sets_of frame l in
      omega (arith, a, parts_are_frame.destination, parts_are_frame.source, length-append (take 6 frame) (take 6 (drop 6 frame) ++ (0x88 ∷ 0x8e ∷ get_or frame 14 0 ∷ 5 ∷ (big_bytes 2 (length body + 16) ++ body))), length-append (take 6 (drop 6 frame)) (0x88 ∷ 0x8e ∷ get_or frame 14 0 ∷ 5 ∷ (big_bytes 2 (length body + 16) ++ body)))

  body_bytes : IsBytes body
  body_bytes = IsBytes-take (body_length frame - 16) (drop 18 frame) (IsBytes-drop 18 frame bytes)

-- ---- the Basic Parameter Set

agility_is : (xs : List ℕ) → length xs ≡ 4 → is_known xs ≡ true → xs ≡ agility
agility_is xs len e =
    let front = (starts_is Decides-eqb xs agility (is_known xs) refl).0 e in
    front ∙ ap (λ (x : List ℕ). agility ++ x) (nil_from_length (drop 4 xs) (omega (arith, len, length-drop 4 xs))) ∙ refl

says_basic : (s : Set) (source : Mac) (h : Gathered) → IsBytes s.body → 29 ≤ length s.body → length s.body ≤ 60 → s.flags < 16 → is_known (basics_in s).agility ≡ true
    → SpellsBasic s (announcement_of source (basics_in s) h)
says_basic s source h bytes least most flags known =
    let b1 : List ℕ = drop 8 s.body in
    let b2 : List ℕ = drop 12 b1 in
    let b3 : List ℕ = drop 4 b2 in
    let l1 = length-drop 8 s.body in
    let l2 = length-drop 12 (drop 8 s.body) in
    let l3 = length-drop 4 (drop 12 (drop 8 s.body)) in
    let l4 = length-drop 4 (drop 4 (drop 12 (drop 8 s.body))) in
    let y1 = IsBytes-drop 8 s.body bytes in
    let y2 = IsBytes-drop 12 (drop 8 s.body) y1 in
    let agile = agility_is (take 4 (drop 4 (drop 12 (drop 8 s.body)))) (omega (arith, least, l1, l2, l3, length-take 4 (drop 4 (drop 12 (drop 8 s.body))))) known in
    let p3 : drop 4 (drop 12 (drop 8 s.body)) ≡ agility ++ drop 4 (drop 4 (drop 12 (drop 8 s.body))) = sym (take-append-drop 4 (drop 4 (drop 12 (drop 8 s.body)))) ∙ ap (λ (x : List ℕ). x ++ drop 4 (drop 4 (drop 12 (drop 8 s.body)))) agile in
    let number : List ℕ = big_bytes 4 (big_number 4 (take 4 (drop 12 (drop 8 s.body)))) in
    let p2 : drop 12 (drop 8 s.body) ≡ number ++ (agility ++ drop 4 (drop 4 (drop 12 (drop 8 s.body)))) = number_front (drop 12 (drop 8 s.body)) y2 (omega (arith, least, l1, l2)) ∙ ap (λ (x : List ℕ). number ++ x) p3 in
    let p1 : drop 8 s.body ≡ take 12 (drop 8 s.body) ++ (number ++ (agility ++ drop 4 (drop 4 (drop 12 (drop 8 s.body))))) = sym (take-append-drop 12 (drop 8 s.body)) ∙ ap (λ (x : List ℕ). take 12 (drop 8 s.body) ++ x) p2 in
    record {
      priority = refl;
      server = sym (bit_of (s.flags / 8) (omega (arith, flags)));
      body = sym (take-append-drop 8 s.body) ∙ ap (λ (x : List ℕ). take 8 s.body ++ x) p1;
      sci = omega (arith, least, length-take 8 s.body);
      mi = omega (arith, least, l1, length-take 12 (drop 8 s.body));
      mn = number_below (drop 12 (drop 8 s.body)) y2;
      named = (omega (arith, least, l1, l2, l3, l4), omega (arith, most, l1, l2, l3, l4));
    }

-- ---- the whole frame

no_indicators : (ss : List Set) → AllByRecursion IsRead ss → AllByRecursion (λ s. s.kind ≢ 255) ss
no_indicators [] all = tt
no_indicators (s ∷ ss) all = (shaped_kind s all.0.shaped, no_indicators ss all.1)

single_from : (k : ℕ) → 1 ≤ k → k ≤ 4 → is_single k ≡ true
single_from k low high = rw (le-leb 1 k low, le-leb k 4 high) refl

spelled_from : (frame : List ℕ) → IsBytes frame → is_mka frame ≡ true → is_long_enough frame ≡ true → is_basic (sets_of frame) ≡ true → (h : Gathered)
    → gathered (length (others_of frame)) (check_place frame) nothing (others_of frame) ≡ Ok h → is_known (basics_in (front_set (sets_of frame))).agility ≡ true
    → Spells frame (announcement_of (record { 0 = take 6 (drop 6 frame) }) (basics_in (front_set (sets_of frame))) h) (check_place frame) (take 16 (drop (check_place frame) frame))
spelled_from frame bytes m l b h gathers known =
    let sets : List ℕ = sets_of frame in
    let sets_bytes = body_bytes frame bytes m l in
    let basic = basic_at-is (sets_of frame) b in
    let w = and_parts (is_whole (sets_of frame)) (leb 29 (front_length (sets_of frame)) && leb (front_length (sets_of frame)) 60) b in
    let most = leb-true (front_length (sets_of frame)) 60 (and_parts (leb 29 (front_length (sets_of frame))) (leb (front_length (sets_of frame)) 60) w.1).1 in
    let set = set_at-is_set (sets_of frame) sets_bytes w.0 in
    let len = length-front_set (sets_of frame) w.0 in
    let walk = walked (length (others_of frame)) (check_place frame) (others_of frame) nothing h (IsBytes-drop (front_size (sets_of frame)) (sets_of frame) sets_bytes) (omega arith) gathers in
    let held = all_held walk.others nothing h walk.places in
    record {
      parts = parts frame bytes m l;
      basic = front_set (sets_of frame);
      others = walk.others;
      whole = whole frame bytes m l;
      is_frame = parts_are_frame frame bytes m l;
      is_body = record {
        front = take (front_size (sets_of frame)) (sets_of frame);
        middle = walk.middle;
        indicator = walk.indicator;
        whole = sym (take-append-drop (front_size (sets_of frame)) (sets_of frame)) ∙ ap (λ (x : List ℕ). take (front_size (sets_of frame)) (sets_of frame) ++ x) walk.whole;
        is_basic = set;
        are_others = walk.are;
        is_indicator = walk.last;
        no_indicator = All-from_recursion (λ s. s.kind ≢ 255) walk.others (no_indicators walk.others walk.read);
        once = λ k low high. (let n = held.0 k (single_from k low high) in omega (arith, n));
      };
      covers = covers frame bytes m l;
      checked = refl;
      source = refl;
      says = says_basic (front_set (sets_of frame)) (record { 0 = take 6 (drop 6 frame) }) h (IsBytes-take (front_length (sets_of frame)) (drop 4 (sets_of frame)) (IsBytes-drop 4 (sets_of frame) sets_bytes)) (rw len basic.1) (rw len most) set.flags known;
      live = subst (λ (o : Option Set). SpellsPeers (the 1 walk.others) (peers_in o)) (sym (held.1.0 1 refl)) (peers_are 1 walk.others refl (λ n e. eqb-true (n % 16) 0 e) walk.read);
      potential = subst (λ (o : Option Set). SpellsPeers (the 2 walk.others) (peers_in o)) (sym (held.1.0 2 refl)) (peers_are 2 walk.others refl (λ n e. eqb-true (n % 16) 0 e) walk.read);
      uses = subst (λ (o : Option Set). SpellsUses (the 3 walk.others) (uses_in o)) (sym (held.1.0 3 refl)) (uses_are walk.others walk.read);
      given = subst (λ (o : Option Set). SpellsGiven (the 4 walk.others) (given_in o)) (sym (held.1.0 4 refl)) (given_are walk.others walk.read);
      highs = subst (λ (o : Option Set). SpellsHighs (find has_highs walk.others) (highs_in o)) (sym held.1.1) (highs_are walk.others walk.read);
    }

-- reading that succeeded, taken apart
bind_read : {X : Type 0} (r : Result X Refusal) (f : X → Result Spelled Refusal) (s : Spelled) → (r >>= f) ≡ Ok s → (x : X) × ((r ≡ Ok x) × (f x ≡ Ok s))
bind_read (Ok x) f s e = (x, (refl, e))
bind_read (Err d) f s e = absurd cc

pub read_is_spelled : (frame : List ℕ) (s : Spelled) → IsBytes frame → reading frame ≡ Ok s → Spells frame s.announcement s.covered s.check
unfolding reading parts_at
read_is_spelled frame s bytes e =
    elim (is_mka frame) as (λ t. is_mka frame ≡ t → Spells frame s.announcement s.covered s.check) [
      | false ↦ λ m. absurd (let clash = rw m at e in cc)
      | true ↦ λ m. elim (is_long_enough frame) as (λ t. is_long_enough frame ≡ t → Spells frame s.announcement s.covered s.check) [
        | false ↦ λ l. absurd (let clash = rw (m, l) at e in cc)
        | true ↦ λ l. elim (is_basic (sets_of frame)) as (λ t. is_basic (sets_of frame) ≡ t → Spells frame s.announcement s.covered s.check) [
          | false ↦ λ b. absurd (let clash = rw (m, l, basic_at-not (sets_of frame) (is_whole (sets_of frame)) refl b) at e in cc)
          | true ↦ λ b.
              let basic = basic_at-is (sets_of frame) b in
              let d = rw (m, l, basic.0) at e in
              let g = bind_read (gathered (length (others_of frame)) (check_place frame) nothing (others_of frame)) _ s d in
              ends frame s bytes m l b g.0 g.1.0 g.1.1 (is_known (basics_in (front_set (sets_of frame))).agility) refl
        ] refl
      ] refl
    ] refl where
      ends : (frame : List ℕ) (s : Spelled) → IsBytes frame → is_mka frame ≡ true → is_long_enough frame ≡ true → is_basic (sets_of frame) ≡ true → (h : Gathered)
          → gathered (length (others_of frame)) (check_place frame) nothing (others_of frame) ≡ Ok h
          → cond (not (is_known (basics_in (front_set (sets_of frame))).agility)) (Err Agility) (Ok (record { announcement = announcement_of (record { 0 = take 6 (drop 6 frame) }) (basics_in (front_set (sets_of frame))) h; covered = check_place frame; check = take 16 (drop (check_place frame) frame) })) ≡ Ok s
          → (k : Bool) → is_known (basics_in (front_set (sets_of frame))).agility ≡ k → Spells frame s.announcement s.covered s.check
      ends frame s bytes m l b h gathers last false known = absurd (let clash = rw known at last in cc)
      ends frame s bytes m l b h gathers last true known =
          let made : Spelled = record { announcement = announcement_of (record { 0 = take 6 (drop 6 frame) }) (basics_in (front_set (sets_of frame))) h; covered = check_place frame; check = take 16 (drop (check_place frame) frame) } in
          let done = rw known at last in
          let same : made ≡ s = cc in
          subst (λ (x : Spelled). Spells frame x.announcement x.covered x.check) same (spelled_from frame bytes m l b h gathers known)

-- a frame without a refusal has a spelling
pub spelled_or_refused : (frame : List ℕ) → IsBytes frame → ((a : Announcement) × ((m : ℕ) × ((c : List ℕ) × Spells frame a m c))) ⊎ ((e : Refusal) × (refused frame ≡ Some e))
spelled_or_refused frame bytes = go (reading frame) refl where
  go : (r : Result Spelled Refusal) → reading frame ≡ r → ((a : Announcement) × ((m : ℕ) × ((c : List ℕ) × Spells frame a m c))) ⊎ ((e : Refusal) × (refused frame ≡ Some e))
  go (Ok s) e = inl (s.announcement, (s.covered, (s.check, read_is_spelled frame s bytes e)))
  go (Err d) e = inr (d, refused-is frame ∙ ap error_of e)

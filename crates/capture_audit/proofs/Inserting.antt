-- A packet once more in the midst of others: those behind it are counted one further, and the pairs that
-- break are the same.
use Rattle.std.proofs.Common.{◌≡◌, ◌≢◌, ◌∙◌, ◌<◌, ◌≤◌, ◌+◌, ◌-◌, ◌⊎◌, inl, inr, ℕ, Bool, true, false, cond, List, [], ◌∷◌, ◌++◌, length, map, Option, Some, None, refl, sym, ap, subst, arith, length-append}
use Rattle.std.specs.Prelude.{option_map, ◌&&◌, ◌||◌, nat_lt}
use Rattle.std.proofs.lemmas.Bool.{cases_eq, cases_lt, eq-eqb, le-ltb, lt-ltb}
use Rattle.aes_block.specs.Secrets.{secret_octets}
use Rattle.aes_block.specs.declared.secret.Secret.{Secret}
use Rattle.audit_report.specs.Verdicts.{Verdict}
use Rattle.capture_packets.specs.Packets.{Seen}
use Rattle.gcm_frames.specs.declared.tag.Tag.{Tag}
use Rattle.key_ring.specs.Rings.{Ring}
use Rattle.known_keys.specs.History.{Entry, Gave, keys}
use Rattle.known_keys.specs.Known.{is_for, is_it, is_told, number_told}
use Rattle.known_keys.specs.Numbered.{greatest_first, number_in, with_key}
use Rattle.known_keys.specs.OneKey.{BreaksKey, BreaksName, BreaksOneKey, given, given_or, key_given, same_id, same_named, turned}
use Rattle.known_keys.specs.declared.giving.Giving.{Giving}
use Rattle.known_keys.specs.declared.giving.Giving.TheVariants.{Key, Without}
use Rattle.known_keys.specs.declared.named.Named.{Named}
use Rattle.known_keys.specs.declared.sender.Sender.{Sender}
use Rattle.known_keys.specs.declared.sender.Sender.TheVariants.{Any, One}
use Rattle.lan_base.specs.declared.association_number.AssociationNumber.{AssociationNumber}
use Rattle.lan_base.specs.declared.key_id.KeyId.{KeyId}
use Rattle.least_pairs.specs.Pairs.{Breaks, IsJudged, Noted}
use Rattle.least_pairs.proofs.Public.{one-verdict}
use Rattle.packet_verdicts.specs.declared.given.Gift.{Gift}
use Rattle.packet_verdicts.specs.declared.given.Shown.{Shown}
use Rattle.packet_verdicts.specs.declared.given.ShownKeys.{ShownKeys}
use Rattle.packet_verdicts.specs.declared.kind.Kind.{Kind}
use Rattle.packet_verdicts.specs.declared.kind.Kind.TheVariants as kinds
use Rattle.packet_verdicts.specs.declared.kind.Mka.TheVariants as mkas
use Rattle.packet_verdicts.specs.declared.kind.Sec.TheVariants as secs
use Rattle.packet_verdicts.specs.Frames.{frame_of}
use Rattle.packet_verdicts.specs.Given.{shown_keys}
use Rattle.packet_verdicts.specs.Right.{newest_right}
use Rattle.use_notes.specs.declared.frame.RightFrame.{RightFrame}
use Rattle.use_notes.specs.Frames.{same_check}
use Rattle.use_notes.specs.Once.{BreaksOnce, Number, noted}
use Rattle.capture_audit.specs.Before.{Unwrapped, entries, entries_by, frame_by, frames, gift_entries, giving_by, kind_in, mkpdu_entries, number_behind, right_frame, right_key, right_under, shown_entries, with_some}
use Rattle.capture_audit.specs.Laws.{moved, moved_pair, once_more}
use Rattle.capture_audit.specs.Telling.{IsVerdict}
use Rattle.capture_audit.proofs.Behind.{mkpdu-behind}
use Rattle.capture_audit.proofs.FrontTold.{IsOfNumber, noted-past, right-number}
use Rattle.capture_audit.proofs.Repeating.{IsRepeated, by-other, frame-under, given-mkpdu, id-itself, in_packet, key-twice, list-itself, named-itself, none-past, noted-here, once-repeated, one-repeated, some-is}

-- ---- numbers

-- the packet that a packet of a number is, or repeats
abbrev back : ℕ → ℕ → ℕ
back n m = cond (nat_lt n m) (m - 1) m

module _ (n : ℕ) where
  moved-low : (m : ℕ) → m ≤ n → moved n m ≡ m
  moved-low m less = ap (λ b. cond b (m + 1) m) (le-ltb n m less)

  moved-far : (m : ℕ) → n < m → moved n m ≡ m + 1
  moved-far m less = ap (λ b. cond b (m + 1) m) (lt-ltb n m less)

  back-low : (m : ℕ) → m ≤ n → back n m ≡ m
  back-low m less = ap (λ b. cond b (m - 1) m) (le-ltb n m less)

  back-far : (m : ℕ) → n < m → back n m ≡ m - 1
  back-far m less = ap (λ b. cond b (m - 1) m) (lt-ltb n m less)

  back-moved : (m : ℕ) → back n (moved n m) ≡ m
  back-moved m = go (cases_lt n m)
    where
      go : (n < m) ⊎ (m ≤ n) → back n (moved n m) ≡ m
      go (inl less) =
          let e = back-far (m + 1) (omega (arith, less)) in
          let same : m + 1 - 1 ≡ m = omega arith in
          ap (λ k. back n k) (moved-far m less) ∙ e ∙ same
      go (inr more) = ap (λ k. back n k) (moved-low m more) ∙ back-low m more

  moved-back : (m : ℕ) → moved n (back n m) ≤ m
  moved-back m = go (cases_lt n m) (cases_eq m (n + 1))
    where
      go : (n < m) ⊎ (m ≤ n) → (m ≡ n + 1) ⊎ (m ≢ n + 1) → moved n (back n m) ≤ m
      go (inr more) at =
          let e = ap (λ k. moved n k) (back-low m more) ∙ moved-low m more in omega (arith, e)
      go (inl less) (inl here) =
          let e = ap (λ k. moved n k) (back-far m less) ∙ moved-low (m - 1) (omega (arith, here)) in omega (arith, e)
      go (inl less) (inr there) =
          let e = ap (λ k. moved n k) (back-far m less) ∙ moved-far (m - 1) (omega (arith, less, there)) in omega (arith, e, less)

  moved-less : (a b : ℕ) → a < b → moved n a < moved n b
  moved-less a b less = go (cases_lt n a) (cases_lt n b)
    where
      go : (n < a) ⊎ (a ≤ n) → (n < b) ⊎ (b ≤ n) → moved n a < moved n b
      go (inl p) (inl q) = let x = moved-far a p in let y = moved-far b q in omega (arith, less, x, y)
      go (inl p) (inr q) = absurd (omega (arith, less, p, q))
      go (inr p) (inl q) = let x = moved-low a p in let y = moved-far b q in omega (arith, less, x, y)
      go (inr p) (inr q) = let x = moved-low a p in let y = moved-low b q in omega (arith, less, x, y)

  moved-up : (a b : ℕ) → a ≤ b → moved n a ≤ moved n b
  moved-up a b less = go (cases_lt n a) (cases_lt n b)
    where
      go : (n < a) ⊎ (a ≤ n) → (n < b) ⊎ (b ≤ n) → moved n a ≤ moved n b
      go (inl p) (inl q) = let x = moved-far a p in let y = moved-far b q in omega (arith, less, x, y)
      go (inl p) (inr q) = absurd (omega (arith, less, p, q))
      go (inr p) (inl q) = let x = moved-low a p in let y = moved-far b q in omega (arith, less, x, y)
      go (inr p) (inr q) = let x = moved-low a p in let y = moved-low b q in omega (arith, less, x, y)

  back-up : (a b : ℕ) → a < b → back n a ≤ back n b
  back-up a b less = go (cases_lt n a) (cases_lt n b)
    where
      go : (n < a) ⊎ (a ≤ n) → (n < b) ⊎ (b ≤ n) → back n a ≤ back n b
      go (inl p) (inl q) = let x = back-far a p in let y = back-far b q in omega (arith, less, x, y)
      go (inl p) (inr q) = absurd (omega (arith, less, p, q))
      go (inr p) (inl q) = let x = back-low a p in let y = back-far b q in omega (arith, less, x, y, p, q)
      go (inr p) (inr q) = let x = back-low a p in let y = back-low b q in omega (arith, less, x, y)

-- ---- pairs

-- the pairs that break, of which one is counted further
record Moves (n : ℕ) (Before Now : ℕ → ℕ → Type 0) : Type 0 where
  pub old : (a b : ℕ) → Before a b → Now (moved n a) (moved n b)
  pub new : (a b : ℕ) → Now a b → Before (back n a) (back n b)

judged-moved : (n : ℕ) (Before Now : ℕ → ℕ → Type 0) → Moves n Before Now → (v : Option (ℕ × ℕ)) → IsJudged Before v
    → IsJudged Now (option_map (moved_pair n) v)
judged-moved n Before Now moves None none = λ a b broken. none (back n a) (back n b) (moves.new a b broken)
judged-moved n Before Now moves (Some pair) was = record {
  broken = moves.old pair.0 pair.1 was.broken;
  least = λ a b broken.
      let low = was.least (back n a) (back n b) (moves.new a b broken) in
      let up = moved-up n pair.1 (back n b) low in
      let down = moved-back n b in
      omega (arith, up, down);
  first = λ a broken.
      let it = subst (λ m. Before (back n a) m) (back-moved n pair.1) (moves.new a (moved n pair.1) broken) in
      let low = was.first (back n a) it in
      let up = moved-up n pair.0 (back n a) low in
      let down = moved-back n a in
      omega (arith, up, down);
}

either-moves : (n : ℕ) (A A' B B' : ℕ → ℕ → Type 0) → Moves n A A' → Moves n B B'
    → Moves n (λ a b. A a b ⊎ B a b) (λ a b. A' a b ⊎ B' a b)
either-moves n A A' B B' one other = record { old = old; new = new }
  where
    old : (a b : ℕ) → A a b ⊎ B a b → A' (moved n a) (moved n b) ⊎ B' (moved n a) (moved n b)
    old a b (inl it) = inl (one.old a b it)
    old a b (inr it) = inr (other.old a b it)

    new : (a b : ℕ) → A' a b ⊎ B' a b → A (back n a) (back n b) ⊎ B (back n a) (back n b)
    new a b (inl it) = inl (one.new a b it)
    new a b (inr it) = inr (other.new a b it)

-- each packet tells what the packet tells that it is, or repeats
abbrev TellsBack : (K V : Type 0) → ℕ → Noted K V → Noted K V → Type 0
TellsBack K V n before now = (m : ℕ) → now m ≡ before (back n m)

module _ (K V : Type 0) (agree : V → V → Bool) (itself : (v : V) → agree v v ≡ true) (n : ℕ) (before now : Noted K V)
    (same : TellsBack K V n before now) where
  clash : (a b : ℕ) (it : Breaks K V agree now a b) → back n b ≤ back n a → ⊥
  clash a b it more =
      let less = back-up n a b it.order in
      let level : back n a ≡ back n b = omega (arith, less, more) in
      let first : before (back n b) ≡ Some (it.key, it.one) = sym (ap (λ m. before m) level) ∙ sym (same a) ∙ it.first in
      let second : before (back n b) ≡ Some (it.key, it.other) = sym (same b) ∙ it.second in
      let one : it.one ≡ it.other = ap (λ (kv : K × V). kv.1) (some-is (sym first ∙ second)) in
      absurd (cc (sym (itself it.one) ∙ ap (λ (v : V). agree it.one v) one ∙ it.apart))

  breaks-move : Moves n (Breaks K V agree before) (Breaks K V agree now)
  breaks-move = record { old = old; new = λ a b it. new a b it (cases_lt (back n a) (back n b)) }
    where
      old : (a b : ℕ) → Breaks K V agree before a b → Breaks K V agree now (moved n a) (moved n b)
      old a b it = record {
        key = it.key;
        one = it.one;
        other = it.other;
        order = moved-less n a b it.order;
        first = same (moved n a) ∙ ap (λ m. before m) (back-moved n a) ∙ it.first;
        second = same (moved n b) ∙ ap (λ m. before m) (back-moved n b) ∙ it.second;
        apart = it.apart;
      }

      new : (a b : ℕ) → Breaks K V agree now a b → (back n a < back n b) ⊎ (back n b ≤ back n a)
          → Breaks K V agree before (back n a) (back n b)
      new a b it (inl less) = record {
        key = it.key;
        one = it.one;
        other = it.other;
        order = less;
        first = sym (same a) ∙ it.first;
        second = sym (same b) ∙ it.second;
        apart = it.apart;
      }
      new a b it (inr more) = absurd (clash a b it more)

repeated-back : (K V : Type 0) (n : ℕ) (before now : Noted K V) → IsRepeated K V n before now → TellsBack K V n before now
repeated-back K V n before now is m = go (cases_eq m (n + 1)) (cases_lt n m)
  where
    past : (k : ℕ) → n < k → before k ≡ None
    past k more = none-past before n is.ends k more

    go : (m ≡ n + 1) ⊎ (m ≢ n + 1) → (n < m) ⊎ (m ≤ n) → now m ≡ before (back n m)
    go (inl here) at =
        let far = back-far n m (omega (arith, here)) in
        let e : back n m ≡ n = omega (arith, far, here) in
        ap (λ k. now k) here ∙ is.again ∙ sym (ap (λ k. before k) e)
    go (inr there) (inl far) =
        is.same m there ∙ past m far
        ∙ sym (ap (λ k. before k) (back-far n m far) ∙ past (m - 1) (omega (arith, there, far)))
    go (inr there) (inr near) = is.same m there ∙ sym (ap (λ k. before k) (back-low n m near))

-- ---- what makes keys known

-- the same keys are known to each frame
record Alike (one two : List Entry) : Type 0 where
  pub keys_are : keys two ≡ keys one
  pub told : (who : Sender) (an : AssociationNumber) (k : ℕ) → is_told two who an k ≡ is_told one who an k

right-alike : (one two : List Entry) → Alike one two → (tag : Tag) (frame : List ℕ) → right_key two tag frame ≡ right_key one tag frame
right-alike one two is tag frame = λ i.
    newest_right (map secret_octets (is.keys_are i)) tag frame
    (greatest_first (λ k. is.told Any tag.an k i || is.told (One tag.sci) tag.an k i) (length (is.keys_are i)))

shown-alike : (n nanos then time group : ℕ) (shown : Option Shown) (one two : List Entry) → Alike one two
    → Alike (shown_entries n nanos group shown ++ one) (shown_entries then time group shown ++ two)
shown-alike n nanos then time group None one two is = is
shown-alike n nanos then time group (Some shown) one two is = record { keys_are = is.keys_are; told = is.told }

gave-alike : (n nanos then time group : ℕ) (id : KeyId) (an : AssociationNumber) (what : Giving) (one two : List Entry)
    → Alike one two → Alike (Gave n nanos group id an what ∷ one) (Gave then time group id an what ∷ two)
gave-alike n nanos then time group id an (Without why) one two is = record { keys_are = is.keys_are; told = is.told }
gave-alike n nanos then time group id an (Key offset sak) one two is = record {
  keys_are = ap (λ (ks : List Secret). with_key ks (Some sak)) is.keys_are;
  told = λ who its k i.
      (is_for who its (Gave n nanos group id an (Key offset sak)) && is_it (number_in (with_key (is.keys_are i) (Some sak)) sak) k)
      || is.told who its k i;
}

gift-alike : (n nanos then time group : ℕ) (gift : Option Gift) (one two : List Entry) → Alike one two
    → Alike (gift_entries n nanos group gift ++ one) (gift_entries then time group gift ++ two)
gift-alike n nanos then time group None one two is = is
gift-alike n nanos then time group (Some gift) one two is =
    gave-alike n nanos then time group gift.id gift.an (giving_by gift.offset gift.sak) one two is

mkpdu-alike : (n nanos then time group : ℕ) (shown : ShownKeys) (gift : Option Gift) (one two : List Entry)
    → Alike (gift_entries n nanos group gift ++ one) (gift_entries then time group gift ++ two)
    → Alike (mkpdu_entries n nanos group shown gift ++ one) (mkpdu_entries then time group shown gift ++ two)
mkpdu-alike n nanos then time group shown gift one two is =
    let it = shown-alike n nanos then time group shown.old
    (shown_entries n nanos group shown.latest ++ (gift_entries n nanos group gift ++ one))
    (shown_entries then time group shown.latest ++ (gift_entries then time group gift ++ two))
    (shown-alike n nanos then time group shown.latest (gift_entries n nanos group gift ++ one) (gift_entries then time group gift ++ two) is) in
    subst (λ (es : List Entry). Alike es (mkpdu_entries then time group shown gift ++ two)) (sym (mkpdu-behind n nanos group shown gift one))
    (subst (λ (es : List Entry). Alike (shown_entries n nanos group shown.old
    ++ (shown_entries n nanos group shown.latest ++ (gift_entries n nanos group gift ++ one))) es)
    (sym (mkpdu-behind then time group shown gift two)) it)

-- a packet tells the same behind what is alike, counted further
by-alike : (n nanos then time : ℕ) (gift : Option Gift) (k : Kind) (one two : List Entry) → Alike one two
    → Alike (entries_by n nanos gift k ++ one) (entries_by then time gift k ++ two)
by-alike n nanos then time gift (kinds.Mka (mkas.Right group s)) one two is =
    mkpdu-alike n nanos then time group (shown_keys s.announcement.uses) gift one two (gift-alike n nanos then time group gift one two is)
by-alike n nanos then time gift (kinds.Mka (mkas.Unknown ckn sci gives)) one two is = record { keys_are = is.keys_are; told = is.told }
by-alike n nanos then time gift _ one two is = is

or-twice : (a b : Bool) → (a || (a || b)) ≡ (a || b)
or-twice true b = refl
or-twice false b = refl

gave-twice : (n nanos then time group : ℕ) (id : KeyId) (an : AssociationNumber) (what : Giving) (told : List Entry)
    → Alike (Gave n nanos group id an what ∷ told) (Gave then time group id an what ∷ Gave n nanos group id an what ∷ told)
gave-twice n nanos then time group id an (Without why) told = record { keys_are = refl; told = λ who its k. refl }
gave-twice n nanos then time group id an (Key offset sak) told = record {
  keys_are = key-twice (keys told) sak;
  told = λ who its k.
      let entry = Gave n nanos group id an (Key offset sak) in
      ap (λ (ks : List Secret). (is_for who its entry && is_it (number_in ks sak) k) || is_told (entry ∷ told) who its k)
      (key-twice (keys told) sak)
      ∙ or-twice (is_for who its entry && is_it (number_told told entry) k) (is_told told who its k);
}

alike-itself : (one : List Entry) → Alike one one
alike-itself one = record { keys_are = refl; told = λ who an k. refl }

alike-back : (one two : List Entry) → Alike one two → Alike two one
alike-back one two is = record { keys_are = sym is.keys_are; told = λ who an k. sym (is.told who an k) }

alike-on : (one two three : List Entry) → Alike one two → Alike two three → Alike one three
alike-on one two three is other = record {
  keys_are = other.keys_are ∙ is.keys_are;
  told = λ who an k. other.told who an k ∙ is.told who an k;
}

-- what is shown makes no key known
shown-more : (n nanos group : ℕ) (shown : Option Shown) (one two : List Entry) → Alike one two
    → Alike one (shown_entries n nanos group shown ++ two)
shown-more n nanos group None one two is = is
shown-more n nanos group (Some shown) one two is = record { keys_are = is.keys_are; told = is.told }

gift-twice : (n nanos then time group : ℕ) (gift : Option Gift) (told two : List Entry)
    → Alike (gift_entries n nanos group gift ++ told) two
    → Alike (gift_entries n nanos group gift ++ told) (gift_entries then time group gift ++ two)
gift-twice n nanos then time group None told two is = is
gift-twice n nanos then time group (Some gift) told two is =
    let what = giving_by gift.offset gift.sak in
    let once = Gave n nanos group gift.id gift.an what ∷ told in
    alike-on once (Gave then time group gift.id gift.an what ∷ once) (Gave then time group gift.id gift.an what ∷ two)
    (gave-twice n nanos then time group gift.id gift.an what told)
    (gave-alike then time then time group gift.id gift.an what once two is)

mkpdu-twice : (n nanos then time group : ℕ) (shown : ShownKeys) (gift : Option Gift) (told : List Entry)
    → Alike (mkpdu_entries n nanos group shown gift ++ told)
    (mkpdu_entries then time group shown gift ++ (mkpdu_entries n nanos group shown gift ++ told))
mkpdu-twice n nanos then time group shown gift told =
    let given_one = gift_entries n nanos group gift ++ told in
    let one = mkpdu_entries n nanos group shown gift ++ told in
    let behind : Alike given_one one =
    subst (λ (es : List Entry). Alike given_one es) (sym (mkpdu-behind n nanos group shown gift told))
    (shown-more n nanos group shown.old given_one (shown_entries n nanos group shown.latest ++ given_one)
    (shown-more n nanos group shown.latest given_one given_one (alike-itself given_one))) in
    let given_two = gift_entries then time group gift ++ one in
    let twice : Alike given_one (mkpdu_entries then time group shown gift ++ one) =
    subst (λ (es : List Entry). Alike given_one es) (sym (mkpdu-behind then time group shown gift one))
    (shown-more then time group shown.old given_one (shown_entries then time group shown.latest ++ given_two)
    (shown-more then time group shown.latest given_one given_two (gift-twice n nanos then time group gift told one behind))) in
    alike-on one given_one (mkpdu_entries then time group shown gift ++ one) (alike-back given_one one behind) twice

-- a packet once more makes no key known
by-twice : (n nanos then time : ℕ) (gift : Option Gift) (k : Kind) (told : List Entry)
    → Alike (entries_by n nanos gift k ++ told) (entries_by then time gift k ++ (entries_by n nanos gift k ++ told))
by-twice n nanos then time gift (kinds.Mka (mkas.Right group s)) told =
    mkpdu-twice n nanos then time group (shown_keys s.announcement.uses) gift told
by-twice n nanos then time gift (kinds.Mka (mkas.Unknown ckn sci gives)) told = record { keys_are = refl; told = λ who an k. refl }
by-twice n nanos then time gift (kinds.Mka mkas.Cut) told = alike-itself told
by-twice n nanos then time gift (kinds.Mka (mkas.Dropped refusal)) told = alike-itself told
by-twice n nanos then time gift (kinds.Mka (mkas.Wrong gives)) told = alike-itself told
by-twice n nanos then time gift kinds.Foreign told = alike-itself told
by-twice n nanos then time gift kinds.Other told = alike-itself told
by-twice n nanos then time gift (kinds.Sec sec) told = alike-itself told

-- ---- right frames

frame-moved : (n then : ℕ) (packet : Seen) (k : Kind) (one two : List Entry) → Alike one two
    → frame_by two then packet k ≡ option_map (in_packet then packet.head.nanos) (frame_by one n packet k)
frame-moved n then packet kinds.Foreign one two is = refl
frame-moved n then packet kinds.Other one two is = refl
frame-moved n then packet (kinds.Mka mka) one two is = refl
frame-moved n then packet (kinds.Sec secs.Cut) one two is = refl
frame-moved n then packet (kinds.Sec (secs.Malformed why)) one two is = refl
frame-moved n then packet (kinds.Sec (secs.Protected tag check)) one two is =
    ap (λ (o : Option ℕ). option_map (right_under then packet.head.nanos tag check) o)
    (right-alike one two is tag (frame_of packet.octets))
    ∙ frame-under then packet.head.nanos (right_under n packet.head.nanos tag check) (right_under then packet.head.nanos tag check)
    (λ key. refl) (right_key one tag (frame_of packet.octets))

-- a frame more, counted further
noted-moved : (n last then time : ℕ) (o : Option RightFrame) (h now : List RightFrame) → n < last → then ≡ last + 1
    → IsOfNumber last o → TellsBack Number (List ℕ) n (noted h) (noted now)
    → TellsBack Number (List ℕ) n (noted (with_some o h)) (noted (with_some (option_map (in_packet then time) o) now))
noted-moved n last then time None h now less next of same m = same m
noted-moved n last then time (Some e) h now less next of same m = go (cases_eq m then)
  where
    go : (m ≡ then) ⊎ (m ≢ then)
        → noted (in_packet then time e ∷ now) m ≡ noted (e ∷ h) (back n m)
    go (inl here) =
        let far = back-far n m (omega (arith, here, next, less)) in
        let at : back n m ≡ e.packet = omega (arith, far, here, next, of) in
        noted-here (in_packet then time e) now m here ∙ sym (noted-here e h (back n m) at)
    go (inr there) =
        noted-past then (Some (in_packet then time e)) now refl m there ∙ same m
        ∙ sym (noted-past last (Some e) h of (back n m) (away (cases_lt n m)))
      where
        away : (n < m) ⊎ (m ≤ n) → back n m ≢ last
        away (inl far) e = let at = back-far n m far in omega (arith, at, e, next, there, far)
        away (inr near) e = let at = back-low n m near in omega (arith, at, e, less, near)

-- ---- keys that are given

or-back : (last then : ℕ) (o : Option ℕ) (it : ℕ → KeyId × Named) (was is : Option (KeyId × Named)) → is ≡ was
    → given_or (option_map (λ key. (then, it key)) o) then is ≡ given_or (option_map (λ key. (last, it key)) o) last was
or-back last then None it was is same = same
or-back last then (Some key) it was is same =
    ap (λ b. cond b (Some (it key)) is) (eq-eqb then then refl) ∙ sym (ap (λ b. cond b (Some (it key)) was) (eq-eqb last last refl))

gave-here : (last nanos then time group : ℕ) (id : KeyId) (an : AssociationNumber) (what : Giving) (one two : List Entry)
    → Alike one two → given two then ≡ given one last
    → given (Gave then time group id an what ∷ two) then ≡ given (Gave last nanos group id an what ∷ one) last
gave-here last nanos then time group id an (Without why) one two is same = same
gave-here last nanos then time group id an (Key offset sak) one two is same =
    let number : number_told two (Gave then time group id an (Key offset sak)) ≡ number_told one (Gave last nanos group id an (Key offset sak)) =
    ap (λ (ks : List Secret). number_in (with_key ks (Some sak)) sak) is.keys_are in
    let it : ℕ → KeyId × Named = λ key. (id, record { an = an; key = key }) in
    ap (λ (o : Option ℕ). given_or (option_map (λ key. (then, it key)) o) then (given two then)) number
    ∙ or-back last then (number_told one (Gave last nanos group id an (Key offset sak))) it (given one last) (given two then) same

gift-here : (last nanos then time group : ℕ) (gift : Option Gift) (one two : List Entry) → Alike one two
    → given two then ≡ given one last
    → given (gift_entries then time group gift ++ two) then ≡ given (gift_entries last nanos group gift ++ one) last
gift-here last nanos then time group None one two is same = same
gift-here last nanos then time group (Some gift) one two is same =
    gave-here last nanos then time group gift.id gift.an (giving_by gift.offset gift.sak) one two is same

by-here : (last nanos then time : ℕ) (gift : Option Gift) (k : Kind) (one two : List Entry) → Alike one two
    → given two then ≡ given one last
    → given (entries_by then time gift k ++ two) then ≡ given (entries_by last nanos gift k ++ one) last
by-here last nanos then time gift (kinds.Mka (mkas.Right group s)) one two is same =
    let shown = shown_keys s.announcement.uses in
    given-mkpdu then time group shown gift two then
    ∙ gift-here last nanos then time group gift one two is same
    ∙ sym (given-mkpdu last nanos group shown gift one last)
by-here last nanos then time gift (kinds.Mka (mkas.Unknown ckn sci gives)) one two is same = same
by-here last nanos then time gift _ one two is same = same

given-moved : (n last nanos then time : ℕ) (gift : Option Gift) (k : Kind) (one two : List Entry) → n < last → then ≡ last + 1
    → Alike one two → TellsBack KeyId Named n (given one) (given two)
    → TellsBack KeyId Named n (given (entries_by last nanos gift k ++ one)) (given (entries_by then time gift k ++ two))
given-moved n last nanos then time gift k one two less next is same m = go (cases_eq m then)
  where
    at : (m ≡ then) → back n m ≡ last
    at here = let far = back-far n m (omega (arith, here, next, less)) in omega (arith, far, here, next)

    away : m ≢ then → (n < m) ⊎ (m ≤ n) → back n m ≢ last
    away there (inl far) e = let p = back-far n m far in omega (arith, p, e, next, there, far)
    away there (inr near) e = let p = back-low n m near in omega (arith, p, e, less, near)

    go : (m ≡ then) ⊎ (m ≢ then)
        → given (entries_by then time gift k ++ two) m ≡ given (entries_by last nanos gift k ++ one) (back n m)
    go (inl here) =
        ap (λ j. given (entries_by then time gift k ++ two) j) here
        ∙ by-here last nanos then time gift k one two is
        (sym (ap (λ j. given two j) here) ∙ same m ∙ ap (λ j. given one j) (at here))
        ∙ sym (ap (λ j. given (entries_by last nanos gift k ++ one) j) (at here))
    go (inr there) =
        by-other then time gift k two m there ∙ same m
        ∙ sym (by-other last nanos gift k one (back n m) (away there (cases_lt n m)))

-- ---- a packet in the midst of others

module _ (ring : Ring) (before : List Unwrapped) (u : Unwrapped) (time : ℕ) (untimed : Bool) where
  abbrev here : ℕ
  here = number_behind before

  abbrev once : List Unwrapped → List Unwrapped
  once later = later ++ u ∷ before

  abbrev twice : List Unwrapped → List Unwrapped
  twice later = later ++ once_more time untimed u ∷ u ∷ before

  one-longer : (later : List Unwrapped) → number_behind (twice later) ≡ number_behind (once later) + 1
  one-longer later =
      let a = length-append later (u ∷ before) in
      let b = length-append later (once_more time untimed u ∷ u ∷ before) in
      omega (arith, a, b)

  behind-it : (later : List Unwrapped) → here < number_behind (once later)
  behind-it later = let a = length-append later (u ∷ before) in omega (arith, a)

  known-alike : (later : List Unwrapped) → Alike (entries ring (once later)) (entries ring (twice later))
  known-alike [] =
      by-twice here u.packet.head.nanos (number_behind (u ∷ before)) time u.gift (kind_in ring u) (entries ring before)
  known-alike (w ∷ later) =
      by-alike (number_behind (once later)) w.packet.head.nanos (number_behind (twice later)) w.packet.head.nanos w.gift (kind_in ring w)
      (entries ring (once later)) (entries ring (twice later)) (known-alike later)

  frames-back : (later : List Unwrapped)
      → TellsBack Number (List ℕ) here (noted (frames ring (once later))) (noted (frames ring (twice later)))
  frames-back [] =
      repeated-back Number (List ℕ) here (noted (frames ring (u ∷ before))) (noted (frames ring (twice [])))
      (once-repeated ring before u time untimed)
  frames-back (w ∷ later) =
      let last = number_behind (once later) in
      let then = number_behind (twice later) in
      subst (λ (o : Option RightFrame). TellsBack Number (List ℕ) here (noted (frames ring (once (w ∷ later))))
      (noted (with_some o (frames ring (twice later)))))
      (sym (frame-moved last then w.packet (kind_in ring w) (entries ring (once later)) (entries ring (twice later)) (known-alike later)))
      (noted-moved here last then w.packet.head.nanos (right_frame ring (once later) w) (frames ring (once later))
      (frames ring (twice later)) (behind-it later) (one-longer later) (right-number ring (once later) w) (frames-back later))

  keys-back : (later : List Unwrapped)
      → TellsBack KeyId Named here (given (entries ring (once later))) (given (entries ring (twice later)))
  keys-back [] =
      repeated-back KeyId Named here (given (entries ring (u ∷ before))) (given (entries ring (twice [])))
      (one-repeated ring before u time untimed)
  keys-back (w ∷ later) =
      given-moved here (number_behind (once later)) w.packet.head.nanos (number_behind (twice later)) w.packet.head.nanos w.gift
      (kind_in ring w) (entries ring (once later)) (entries ring (twice later)) (behind-it later) (one-longer later)
      (known-alike later) (keys-back later)

  pub once-moved : (later : List Unwrapped) (one two : Verdict) → IsVerdict ring (once later) one
      → IsVerdict ring (twice later) two → two.once ≡ option_map (moved_pair here) one.once
  once-moved later one two was is =
      let old = noted (frames ring (once later)) in
      let new = noted (frames ring (twice later)) in
      one-verdict (BreaksOnce (frames ring (twice later))) two.once (option_map (moved_pair here) one.once) is.once
      (judged-moved here (BreaksOnce (frames ring (once later))) (BreaksOnce (frames ring (twice later)))
      (breaks-move Number (List ℕ) same_check list-itself here old new (frames-back later)) one.once was.once)

  pub one-key-moved : (later : List Unwrapped) (one two : Verdict) → IsVerdict ring (once later) one
      → IsVerdict ring (twice later) two → two.one_key ≡ option_map (moved_pair here) one.one_key
  one-key-moved later one two was is =
      let old = entries ring (once later) in
      let new = entries ring (twice later) in
      one-verdict (BreaksOneKey new) two.one_key (option_map (moved_pair here) one.one_key) is.one_key
      (judged-moved here (BreaksOneKey old) (BreaksOneKey new)
      (either-moves here (BreaksName old) (BreaksName new) (BreaksKey old) (BreaksKey new)
      (breaks-move KeyId Named same_named named-itself here (given old) (given new) (keys-back later))
      (breaks-move ℕ KeyId same_id id-itself here (key_given old) (key_given new)
      (λ m. ap (λ (o : Option (KeyId × Named)). option_map turned o) (keys-back later m))))
      one.one_key was.one_key)

-- Sums of octets and a key stream, and counter mode block by block and back.
use Rattle.std.proofs.Common.{zero, ◌*◌, ◌%◌, ◌^◌, get_or, ◌≡◌, ℕ, suc, ◌+◌, ◌-◌, ◌<◌, ◌≤◌, min, subst, List, [], ◌∷◌, ◌++◌, length, take, drop, refl, sym, ap, ◌∙◌, arith, bit_xor}
use Rattle.std.proofs.lemmas.List.{take_at, drop_at, length-append, length-drop, length-take-le, append_assoc, append-nil, take_min, drop_min, drop-drop, take_all, drop_all, take-append-drop}
use Rattle.std.proofs.lemmas.Slice.{take-put_mid, drop-put_mid}
use Rattle.std.specs.Int.Bits.{xor_zero_r, xor_assoc, xor_self}
use borrow.Rule.Slice.PartMut.{put_mid}
use Rattle.std.specs.Int.{w32, to_be_bytes, from_be_bytes}
use Rattle.std.proofs.lemmas.Nat.{from_be_bytes-to_be_bytes_4}
use Rattle.std.proofs.lemmas.List.Elements.{All-append, All-take, All-from_get_or}
use Rattle.aes_block.specs.Aes.{aes, IsBlock}
use Rattle.aes_block.specs.Octet.{octets_sum}
use Rattle.gcm_core.specs.Blocks.{block_count}
use Rattle.gcm_core.specs.Gcm.{counter_block, first_counter, gctr, increment, key_stream}
use Rattle.gcm_core.proofs.Octets.{IsOctet, All-bytes, length-bytes}

pub length-sum : (octets mask : List ℕ) → length octets ≤ length mask → length (octets_sum octets mask) ≡ length octets
length-sum [] mask h = refl
length-sum (x ∷ xs) [] h = absurd (omega arith)
length-sum (x ∷ xs) (m ∷ ms) h = ap suc (length-sum xs ms (omega arith))

-- a mask twice is none
sum-twice : (octets mask : List ℕ) → length octets ≤ length mask → octets_sum (octets_sum octets mask) mask ≡ octets
sum-twice [] mask h = refl
sum-twice (x ∷ xs) [] h = absurd (omega arith)
sum-twice (x ∷ xs) (m ∷ ms) h = λ i. twice x m i ∷ sum-twice xs ms (omega arith) i
  where
    twice : (x m : ℕ) → bit_xor (bit_xor x m) m ≡ x
    twice x m = xor_assoc x m m ∙ ap (λ (n : ℕ). bit_xor x n) (xor_self m) ∙ xor_zero_r x

-- a mask in two parts
sum-append : (octets mask stream : List ℕ) → octets_sum octets (mask ++ stream) ≡ octets_sum (take (length mask) octets) mask ++ octets_sum (drop (length mask) octets) stream
sum-append octets [] stream = refl
sum-append [] (m ∷ ms) stream = refl
sum-append (x ∷ xs) (m ∷ ms) stream = λ i. bit_xor x m ∷ sum-append xs ms stream i

-- the front of a sum
pub sum-front : (octets rest mask : List ℕ) → take (length octets) (octets_sum (octets ++ rest) mask) ≡ octets_sum octets mask
sum-front [] rest mask = refl
sum-front (x ∷ xs) rest [] = refl
sum-front (x ∷ xs) rest (m ∷ ms) = ap (λ sum. bit_xor x m ∷ sum) (sum-front xs rest ms)

-- ---- counter blocks

-- four octets put behind the first twelve
pub put_counter : (iv zeros count : List ℕ) → length iv ≡ 12 → length zeros ≡ 4 → put_mid 12 4 (iv ++ zeros) count ≡ iv ++ count
put_counter iv zeros count h k =
    let front : take 12 (iv ++ zeros) ≡ iv = take_at iv zeros 12 h in
    let back : drop 12 (iv ++ zeros) ≡ zeros = drop_at iv zeros 12 h in
    let none : drop 4 zeros ≡ [] = drop_all 4 zeros (omega arith) in
    rw (front, back, none, append-nil) refl

-- the next counter block has the next count
pub increment-count : (iv : List ℕ) (count : ℕ) → length iv ≡ 12 → count < 2 ^ 32 → increment (counter_block iv count) ≡ counter_block iv ((count + 1) % 2 ^ 32)
unfolding increment
increment-count iv count h fits =
    let octets = to_be_bytes w32 count in
    let front : take 12 (iv ++ octets) ≡ iv = take_at iv octets 12 h in
    let back : drop 12 (iv ++ octets) ≡ octets = drop_at iv octets 12 h in
    let number : from_be_bytes w32 octets ≡ count = from_be_bytes-to_be_bytes_4 count fits in
    rw (front, back) (ap (λ n. iv ++ to_be_bytes w32 ((n + 1) % 2 ^ 32)) number)

pub IsBlock-increment : (counter : List ℕ) → IsBlock counter → IsBlock (increment counter)
unfolding increment
IsBlock-increment counter h =
    let n = (from_be_bytes w32 (drop 12 counter) + 1) % 2 ^ 32 in
    let l : length (take 12 counter) ≡ 12 = length-take-le 12 counter (omega (arith, h.count)) in
    record {
      count = length-append (take 12 counter) (to_be_bytes w32 n) ∙ (omega (arith, length-bytes 4 n));
      octets = All-append IsOctet (take 12 counter) (to_be_bytes w32 n) (All-take IsOctet 12 counter h.octets) (All-bytes 4 n);
    }

pub IsBlock-counter : (iv : List ℕ) (count : ℕ) → length iv ≡ 12 → ((i : ℕ) → get_or iv i 0 < 256) → IsBlock (counter_block iv count)
IsBlock-counter iv count h fits = record {
  count = length-append iv (to_be_bytes w32 count) ∙ (omega (arith, length-bytes 4 count));
  octets = All-append IsOctet iv (to_be_bytes w32 count) (All-from_get_or IsOctet iv 0 (λ i k. fits i)) (All-bytes 4 count);
}

length-key_stream : (key counter : List ℕ) (n : ℕ) → ((text : List ℕ) → IsBlock text → IsBlock (aes key text)) → IsBlock counter
    → length (key_stream key counter n) ≡ 16 * n
length-key_stream key counter zero blocks h = refl
length-key_stream key counter (suc n) blocks h =
    let first = blocks counter h in
    length-append (aes key counter) (key_stream key (increment counter) n)
    ∙ (omega (arith, first.count, length-key_stream key (increment counter) n blocks (IsBlock-increment counter h)))

-- ---- counter mode

-- the first octets are enciphered, and the rest under the blocks from this counter on gives the whole
pub record IsEnciphered (key counter octets : List ℕ) (start : ℕ) (whole : List ℕ) : Type 0 where
  pub within : start ≤ length octets
  pub rest : take start octets ++ octets_sum (drop start octets) (key_stream key counter (block_count (length octets - start))) ≡ whole

pub enciphered_none : (key counter octets : List ℕ) → IsEnciphered key counter octets 0 (gctr key counter octets)
unfolding gctr
enciphered_none key counter octets =
    let all : length octets - 0 ≡ length octets = omega arith in
    record { within = omega arith; rest = rw all refl }

pub enciphered_more : (key counter octets whole stream piece octets' : List ℕ) (start end : ℕ) → start < length octets
    → end ≡ min (length octets) (start + 16) → stream ≡ aes key counter → length stream ≡ 16
    → piece ≡ octets_sum (take (end - start) (drop start octets)) stream → octets' ≡ put_mid start (end - start) octets piece
    → IsEnciphered key counter octets start whole → IsEnciphered key (increment counter) octets' end whole
enciphered_more key counter octets whole stream piece octets' start end h eend es ls ep eo was =
    let rest : List ℕ = drop start octets in
    let lr : length rest ≡ length octets - start = length-drop start octets in
    let size : end - start ≡ min 16 (length rest) = omega arith in
    let count : block_count (length octets - start) ≡ suc (block_count (length octets - end)) = omega arith in
    let used : take (end - start) rest ≡ take 16 rest = ap (λ (n : ℕ). take n rest) size ∙ take_min 16 rest in
    let there : start + (end - start) ≡ end = omega arith in
    let left : drop end octets ≡ drop 16 rest =
    ap (λ (n : ℕ). drop n octets) (sym there) ∙ sym (drop-drop (end - start) start octets) ∙ ap (λ (n : ℕ). drop n rest) size ∙ drop_min 16 rest in
    let lp : length piece ≡ end - start =
    ap length ep ∙ length-sum (take (end - start) rest) stream (omega (arith, length-take-le (end - start) rest (omega arith))) ∙ length-take-le (end - start) rest (omega arith) in
    let front : take end octets' ≡ take start octets ++ piece =
    ap (λ (os : List ℕ). take end os) eo ∙ take-put_mid start (end - start) octets piece end (omega arith) (omega arith) in
    let back : drop end octets' ≡ drop 16 rest =
    ap (λ (os : List ℕ). drop end os) eo ∙ drop-put_mid start (end - start) octets piece end (omega arith) (omega arith) lp ∙ left in
    let parts : octets' ≡ (take start octets ++ piece) ++ drop 16 rest =
    sym (take-append-drop end octets') ∙ (λ i. front i ++ back i) in
    let lt : length (take start octets) ≡ start = length-take-le start octets (omega arith) in
    let ld : length (drop 16 rest) ≡ length rest - 16 = length-drop 16 rest in
    let lf : length ((take start octets ++ piece) ++ drop 16 rest) ≡ length (take start octets) + length piece + length (drop 16 rest) =
    simp length-append in
    let lo : length octets' ≡ length octets = omega (arith, ap length parts) in
    let now : List ℕ = key_stream key (increment counter) (block_count (length octets - end)) in
    let split : octets_sum rest (stream ++ now) ≡ piece ++ octets_sum (drop 16 rest) now =
    sum-append rest stream now
    ∙ rw (ls, ep, used) refl in
    let was' : take start octets ++ octets_sum rest (stream ++ now) ≡ whole = rw es (rw count at was.rest) in
    record {
      within = omega arith;
      rest = rw (lo, front, back, append_assoc, ← split) was';
    }

-- once block i is enciphered, as far as the octets go, the octets before block i + 1 are
pub enciphered_block : (key counter octets whole stream piece octets' : List ℕ) (i end : ℕ) → 16 * i < length octets
    → end ≡ min (length octets) (16 * i + 16) → stream ≡ aes key counter → length stream ≡ 16
    → piece ≡ octets_sum (take (end - 16 * i) (drop (16 * i) octets)) stream → octets' ≡ put_mid (16 * i) (end - 16 * i) octets piece
    → length octets' ≡ length octets
    → IsEnciphered key counter octets (min (length octets) (16 * i)) whole
    → IsEnciphered key (increment counter) octets' (min (length octets') (16 * (i + 1))) whole
enciphered_block key counter octets whole stream piece octets' i end h eend es ls ep eo same was =
    let start : min (length octets) (16 * i) ≡ 16 * i = omega arith in
    let next : end ≡ min (length octets') (16 * (i + 1)) = omega arith in
    subst (λ (n : ℕ). IsEnciphered key (increment counter) octets' n whole) next
    (enciphered_more key counter octets whole stream piece octets' (16 * i) end h eend es ls ep eo
    (subst (λ (n : ℕ). IsEnciphered key counter octets n whole) start was))

pub enciphered_all : (key counter octets whole : List ℕ) (i : ℕ) → length octets ≤ 16 * i → IsEnciphered key counter octets (min (length octets) (16 * i)) whole → octets ≡ whole
enciphered_all key counter octets whole i h was =
    let all : length octets ≤ min (length octets) (16 * i) = omega arith in
    rw (drop_all (min (length octets) (16 * i)) octets all, take_all (min (length octets) (16 * i)) octets all, append-nil) at was.rest

-- counter mode twice gives the octets back
pub gctr-gctr : (key counter octets : List ℕ) → ((text : List ℕ) → IsBlock text → IsBlock (aes key text)) → IsBlock counter
    → gctr key counter (gctr key counter octets) ≡ octets
unfolding gctr
gctr-gctr key counter octets blocks h =
    let n = block_count (length octets) in
    let stream = key_stream key counter n in
    let l : length stream ≡ 16 * n = length-key_stream key counter n blocks h in
    let long : length octets ≤ length stream = omega arith in
    rw (length-sum octets stream long) (sum-twice octets stream long)

-- the counter block behind that of the first count
pub gctr-increment : (key iv text : List ℕ) → length iv ≡ 12 → gctr key (increment (first_counter iv)) text ≡ gctr key (counter_block iv 2) text
gctr-increment key iv text h = ap (λ (c : List ℕ). gctr key c text) (increment-count iv 1 h (omega arith))

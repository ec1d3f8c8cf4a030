-- What ciphers make of octets are octets: protected frames, and what is opened of frames.
use Rattle.std.proofs.Common.{◌≡◌, ◌<◌, ◌≤◌, ◌+◌, ◌^◌, ℕ, zero, suc, Bool, true, false, cond, not, ◌&&◌, List, [], ◌∷◌, ◌++◌}
use Rattle.std.proofs.Common.{inl, inr, length, take, drop, Option, Some, None, Ok, refl, subst, arith, nat_lt}
use Rattle.std.specs.Prelude.{slice_index}
use Rattle.std.proofs.lemmas.Bool.{ltb-true, ltb-false, cases_lt}
use Rattle.std.proofs.lemmas.List.{length-append, length-take-le, length-drop, get_or_past}
use Rattle.std.proofs.lemmas.List.Elements.{All-nil, All-cons, All-head, All-tail, All-append, All-take, All-drop}
use Rattle.byteorder.specs.Endian.{big_bytes, big_number}
use Rattle.byteorder.specs.Numbers.{big_from-lt}
use Rattle.aes_block.specs.Aes.{aes, IsBlock, IsKey}
use Rattle.aes_block.specs.Octet.{octets_sum}
use Rattle.aes_block.proofs.Public.{All-from_AreOctets, AreOctets-from_All, AreOctets-octets_sum}
use Rattle.gcm_core.specs.Blocks.{block_count, block_octets, number_from, octets_of_bits}
use Rattle.gcm_core.specs.Gcm.{gctr, key_stream, increment, first_counter, gcm_text, gcm_tag, hashed, hash_key}
use Rattle.gcm_core.proofs.Public.{IsBlock-increment, IsOctet, All-bytes}
use Rattle.lan_base.specs.declared.address.Sci.{Sci}
use Rattle.lan_base.specs.declared.association_number.AssociationNumber.{AssociationNumber}
use Rattle.lan_base.specs.declared.association_number.AssociationNumber.TheVariants.{An0, An1, An2, An3}
use Rattle.lan_base.specs.declared.frame.UserFrame.{UserFrame}
use Rattle.gcm_frames.specs.declared.tag.Tag.{Tag}
use Rattle.gcm_frames.specs.declared.tag.TagRefusal.{TagRefusal}
use Rattle.gcm_frames.specs.declared.tag.TagRefusal.TheVariants.{NotSec, Version, Mode, Short, SlWrong}
use Rattle.gcm_frames.specs.Protected.{IsSci, iv, control_octet, short_length, sec_tag, head_octets, sealed_octets, protected}
use Rattle.gcm_frames.specs.Sealed.{secure_data, enciphered, deciphered, is_tag_right, opened}
use Rattle.gcm_frames.specs.Tags.{refused, is_sec, has_control, has_version, is_mode, is_short, is_length_wrong, has_sci, start_of, short_length_of, sci_of, tag_in, fields_or, tag_fields}
use Rattle.gcm_frames.proofs.Public.{encrypts as counts_on}
use Rattle.lan_core.specs.Types.{AreOctets}
use Rattle.group_safety.proofs.once.Ciphers.{encrypts}

-- ---- lists

pub left : (xs ys : List ℕ) → AreOctets (xs ++ ys) → AreOctets xs
left [] ys all = All-nil IsOctet
left (x ∷ xs) ys all =
    All-cons IsOctet x xs (All-head IsOctet x (xs ++ ys) all)
    (left xs ys (All-tail IsOctet x (xs ++ ys) all))

pub right : (xs ys : List ℕ) → AreOctets (xs ++ ys) → AreOctets ys
right [] ys all = all
right (x ∷ xs) ys all = right xs ys (All-tail IsOctet x (xs ++ ys) all)

pub anywhere : (xs : List ℕ) → AreOctets xs → (i : ℕ) → slice_index xs i < 256
anywhere xs all i =
    elim (cases_lt i (length xs)) [
      | inl less ↦ all i 0 less
      | inr past ↦ rw (get_or_past xs i 0 past) (omega arith)
    ]

pub number-4 : (xs : List ℕ) → AreOctets xs → big_number 4 xs < 2 ^ 32
number-4 xs all = big_from-lt 0 4 xs (anywhere xs all)

pub number-2 : (xs : List ℕ) → AreOctets xs → big_number 2 xs < 2 ^ 16
number-2 xs all = big_from-lt 0 2 xs (anywhere xs all)

-- ---- counter mode

sum-octets : (xs ys : List ℕ) → AreOctets xs → AreOctets ys → AreOctets (octets_sum xs ys)
sum-octets xs ys a b =
    All-from_AreOctets (octets_sum xs ys)
    (AreOctets-octets_sum xs ys (AreOctets-from_All xs a) (AreOctets-from_All ys b))

stream-octets : (key counter : List ℕ) (n : ℕ) → IsKey key → IsBlock counter
    → AreOctets (key_stream key counter n)
stream-octets key counter zero is_key block = All-nil IsOctet
stream-octets key counter (suc n) is_key block =
    All-append IsOctet (aes key counter) (key_stream key (increment counter) n)
    (encrypts key counter is_key block).octets
    (stream-octets key (increment counter) n is_key (IsBlock-increment counter block))

gctr-octets : (key counter octets : List ℕ) → IsKey key → IsBlock counter → AreOctets octets
    → AreOctets (gctr key counter octets)
unfolding gctr
gctr-octets key counter octets is_key block all =
    sum-octets octets (key_stream key counter (block_count (length octets))) all
    (stream-octets key counter (block_count (length octets)) is_key block)

counter : (key : List ℕ) (sci : Sci) (pn : ℕ) → IsKey key → IsSci sci
    → IsBlock (first_counter (iv sci pn))
counter key sci pn is_key is_sci =
    (counts_on key sci pn (λ k text is block. encrypts k text is block) is_key is_sci).counter

text-octets : (key : List ℕ) (sci : Sci) (pn : ℕ) (text : List ℕ) → IsKey key → IsSci sci
    → AreOctets text → AreOctets (gcm_text key (iv sci pn) text)
unfolding gcm_text
text-octets key sci pn text is_key is_sci all =
    gctr-octets key (increment (first_counter (iv sci pn))) text is_key
    (IsBlock-increment (first_counter (iv sci pn)) (counter key sci pn is_key is_sci)) all

tag-octets : (key : List ℕ) (sci : Sci) (pn : ℕ) (extra text : List ℕ) → IsKey key → IsSci sci
    → AreOctets (gcm_tag key (iv sci pn) extra text)
unfolding gcm_tag block_octets
tag-octets key sci pn extra text is_key is_sci =
    gctr-octets key (first_counter (iv sci pn))
    (octets_of_bits (hashed (hash_key key) extra text)) is_key (counter key sci pn is_key is_sci)
    (All-bytes 16 (number_from 0 (hashed (hash_key key) extra text)))

-- ---- protected frames

control-small : (conf : Bool) (an : AssociationNumber) → control_octet conf an < 256
control-small true An0 = omega arith
control-small true An1 = omega arith
control-small true An2 = omega arith
control-small true An3 = omega arith
control-small false An0 = omega arith
control-small false An1 = omega arith
control-small false An2 = omega arith
control-small false An3 = omega arith

short-small : (count : ℕ) → short_length count < 256
short-small count = go (nat_lt count 48) refl
  where
    go : (b : Bool) → nat_lt count 48 ≡ b → cond b count 0 < 256
    go true e = let less = ltb-true count 48 e in omega (arith, less)
    go false e = omega arith

head-octets : (sci : Sci) (an : AssociationNumber) (pn : ℕ) (conf : Bool) (user : UserFrame)
    → IsSci sci → AreOctets user.destination.0 → AreOctets (head_octets sci an pn conf user)
head-octets sci an pn conf user is_sci all =
    let count = length user.body in
    let behind : List ℕ = big_bytes 4 pn ++ sci.0 in
    let last : AreOctets behind = All-append IsOctet (big_bytes 4 pn) sci.0 (All-bytes 4 pn) is_sci.octets in
    let third : AreOctets (short_length count ∷ behind) =
    All-cons IsOctet (short_length count) behind (short-small count) last in
    let second : AreOctets (control_octet conf an ∷ short_length count ∷ behind) =
    All-cons IsOctet (control_octet conf an) (short_length count ∷ behind) (control-small conf an) third in
    let first : AreOctets (0xe5 ∷ control_octet conf an ∷ short_length count ∷ behind) =
    All-cons IsOctet 0xe5 (control_octet conf an ∷ short_length count ∷ behind) (omega arith) second in
    let tag : AreOctets (sec_tag sci an pn conf count) =
    All-cons IsOctet 0x88 (0xe5 ∷ control_octet conf an ∷ short_length count ∷ behind) (omega arith) first in
    All-append IsOctet user.destination.0 (take 6 sci.0 ++ sec_tag sci an pn conf count) all
    (All-append IsOctet (take 6 sci.0) (sec_tag sci an pn conf count)
    (All-take IsOctet 6 sci.0 is_sci.octets) tag)

sealed-octets : (key : List ℕ) (sci : Sci) (pn : ℕ) (conf : Bool) (head body : List ℕ) → IsKey key
    → IsSci sci → AreOctets head → AreOctets body
    → AreOctets (sealed_octets key (iv sci pn) conf head body)
sealed-octets key sci pn true head body is_key is_sci first all =
    let text = gcm_text key (iv sci pn) body in
    All-append IsOctet head (text ++ gcm_tag key (iv sci pn) head text) first
    (All-append IsOctet text (gcm_tag key (iv sci pn) head text)
    (text-octets key sci pn body is_key is_sci all)
    (tag-octets key sci pn head text is_key is_sci))
sealed-octets key sci pn false head body is_key is_sci first all =
    let none = gcm_text key (iv sci pn) [] in
    All-append IsOctet head (body ++ gcm_tag key (iv sci pn) (head ++ body) none) first
    (All-append IsOctet body (gcm_tag key (iv sci pn) (head ++ body) none) all
    (tag-octets key sci pn (head ++ body) none is_key is_sci))

pub protected-octets : (key : List ℕ) (sci : Sci) (an : AssociationNumber) (pn : ℕ) (conf : Bool)
    (user : UserFrame) → IsKey key → IsSci sci → AreOctets user.destination.0 → AreOctets user.body
    → AreOctets (protected key sci an pn conf user)
protected-octets key sci an pn conf user is_key is_sci destination body =
    sealed-octets key sci pn conf (head_octets sci an pn conf user) user.body is_key is_sci
    (head-octets sci an pn conf user is_sci destination) body

-- ---- what is read and opened

read-from : (r : Option TagRefusal) (frame : List ℕ) (tag : Tag) → fields_or r frame ≡ Ok tag
    → (r ≡ None) × (tag_in frame ≡ tag)
read-from None frame tag is = (refl, cc is)
read-from (Some refusal) frame tag is = absurd (cc is)

-- of five refusals the fourth does not apply where none does
fourth : (a b c d e : Bool) (v w x y z : TagRefusal)
    → cond a (Some v) (cond b (Some w) (cond c (Some x) (cond d (Some y) (cond e (Some z) None)))) ≡ None
    → d ≡ false
fourth true b c d e v w x y z is = absurd (cc is)
fourth false true c d e v w x y z is = absurd (cc is)
fourth false false true d e v w x y z is = absurd (cc is)
fourth false false false true e v w x y z is = absurd (cc is)
fourth false false false false e v w x y z is = refl

long-enough : (frame : List ℕ) → refused frame ≡ None
    → start_of frame + short_length_of frame + 16 ≤ length frame
long-enough frame is =
    ltb-false (length frame) (start_of frame + short_length_of frame + 16)
    (fourth (not (is_sec frame)) (has_control frame && has_version frame)
    (has_control frame && not (is_mode frame)) (is_short frame) (is_length_wrong frame)
    NotSec Version Mode Short SlWrong is)

sci-read : (frame : List ℕ) → AreOctets frame
    → start_of frame + short_length_of frame + 16 ≤ length frame → IsSci (sci_of frame)
sci-read frame all = go (has_sci frame)
  where
    go : (b : Bool) → cond b 28 20 + short_length_of frame + 16 ≤ length frame
        → IsSci (cond b (record { 0 = take 8 (drop 20 frame) })
        (record { 0 = take 6 (drop 6 frame) ++ 0 ∷ 1 ∷ [] }))
    go true long = record {
      count = length-take-le 8 (drop 20 frame) (rw (length-drop 20 frame) (omega (arith, long)));
      octets = All-take IsOctet 8 (drop 20 frame) (All-drop IsOctet 20 frame all);
    }
    go false long =
        let six : length (take 6 (drop 6 frame)) ≡ 6 =
        length-take-le 6 (drop 6 frame) (rw (length-drop 6 frame) (omega (arith, long))) in
        record {
          count = omega (arith, six, length-append (take 6 (drop 6 frame)) (0 ∷ 1 ∷ []));
          octets = All-append IsOctet (take 6 (drop 6 frame)) (0 ∷ 1 ∷ [])
              (All-take IsOctet 6 (drop 6 frame) (All-drop IsOctet 6 frame all))
              (All-cons IsOctet 0 (1 ∷ []) (omega arith)
              (All-cons IsOctet 1 [] (omega arith) (All-nil IsOctet)));
        }

-- what is read of octets: a whole SCI, and a packet number of 32 bits
pub record IsTagOf (tag : Tag) : Type 0 where
  pub sci : IsSci tag.sci
  pub pn : tag.pn < 2 ^ 32

pub tag-typed : (frame : List ℕ) (tag : Tag) → AreOctets frame → tag_fields frame ≡ Ok tag
    → IsTagOf tag
unfolding tag_fields
tag-typed frame tag all is =
    let r = read-from (refused frame) frame tag is in
    subst IsTagOf r.1 (record {
      sci = sci-read frame all (long-enough frame r.0);
      pn = number-4 (drop 16 frame) (All-drop IsOctet 16 frame all);
    })

deciphered-octets : (key : List ℕ) (tag : Tag) (frame : List ℕ) → IsKey key → IsSci tag.sci
    → AreOctets frame → AreOctets (deciphered key tag frame)
deciphered-octets key tag frame is_key is_sci all = go tag.conf
  where
    data_octets : AreOctets (secure_data tag frame)
    data_octets = All-take IsOctet tag.len (drop tag.start frame) (All-drop IsOctet tag.start frame all)

    enciphered-octets : (b : Bool) → AreOctets (cond b (secure_data tag frame) [])
    enciphered-octets true = data_octets
    enciphered-octets false = All-nil IsOctet

    go : (b : Bool)
        → AreOctets (cond b (gcm_text key (iv tag.sci tag.pn) (enciphered tag frame)) (secure_data tag frame))
    go true = text-octets key tag.sci tag.pn (enciphered tag frame) is_key is_sci
        (enciphered-octets tag.conf)
    go false = data_octets

pub opened-octets : (key : List ℕ) (tag : Tag) (frame user : List ℕ) → IsKey key → IsSci tag.sci
    → AreOctets frame → opened key tag frame ≡ Some user → AreOctets user
unfolding opened
opened-octets key tag frame user is_key is_sci all is = go (is_tag_right key tag frame) is
  where
    go : (b : Bool) → cond b (Some (deciphered key tag frame)) None ≡ Some user → AreOctets user
    go true e = let same : deciphered key tag frame ≡ user = cc e in
        subst AreOctets same (deciphered-octets key tag frame is_key is_sci all)
    go false e = absurd (cc e)

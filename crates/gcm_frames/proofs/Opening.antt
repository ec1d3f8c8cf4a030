-- A frame opens to user data exactly where it is sealed from a text with that user data.
use Rattle.std.proofs.Common.{◌≡◌, ◌≤◌, ℕ, Bool, true, false, cond, List, [], ◌∷◌, ◌++◌, length, Some, None, refl, sym, ap, ◌∙◌, subst, arith}
use Rattle.std.specs.Cmp.Lexicographic.{bytes_decides}
use Rattle.gcm_core.specs.Gcm.{gcm_text, gcm_tag, gctr, increment, first_counter}
use Rattle.gcm_core.proofs.Public.{gctr-gctr, IsBlock-increment, IsOctet, All-bytes, length-bytes}
use Rattle.std.proofs.lemmas.List.{length-append}
use Rattle.std.proofs.lemmas.List.Elements.{All-append}
use Rattle.std.specs.Int.{w32, to_be_bytes}
use Rattle.byteorder.specs.Endian.{big_bytes}
use Rattle.aes_block.specs.Aes.{aes, IsBlock, IsKey}
use Rattle.aes_block.specs.Octet.{octets_sum}
use Rattle.lan_base.specs.declared.address.Sci.{Sci}
use Rattle.gcm_frames.specs.declared.tag.Tag.{Tag}
use Rattle.gcm_frames.specs.Protected.{iv, IsSci}
use Rattle.gcm_frames.specs.Sealed.{additional_data, check_octets, enciphered, user_data, deciphered_with, is_tag_right_with, opened_with, IsSealedFromWith}

-- what is known of the IV and of the cipher under a key
pub record Encrypts (key v : List ℕ) : Type 0 where
  pub counter : IsBlock (first_counter v)
  pub blocks : (text : List ℕ) → IsBlock text → IsBlock (aes key text)

-- the IV of a packet and a key are so
pub encrypts : (key : List ℕ) (sci : Sci) (pn : ℕ) → ((k block : List ℕ) → IsKey k → IsBlock block → IsBlock (aes k block)) → IsKey key → IsSci sci
    → Encrypts key (iv sci pn)
encrypts key sci pn ciphers is_key is_sci =
    let number : List ℕ = to_be_bytes w32 pn in
    let count : List ℕ = to_be_bytes w32 1 in
    let same : to_be_bytes w32 pn ≡ big_bytes 4 pn = refl in
    record {
      counter = subst (λ (x : List ℕ). IsBlock ((sci.0 ++ x) ++ count)) same (record {
        count = omega (arith, length-append (sci.0 ++ number) count, length-append sci.0 number, length-bytes 4 pn, length-bytes 4 1, is_sci.count);
        octets = All-append IsOctet (sci.0 ++ number) count (All-append IsOctet sci.0 number is_sci.octets (All-bytes 4 pn)) (All-bytes 4 1);
      });
      blocks = λ text h. ciphers key text is_key h;
    }

sum-le : (xs ys : List ℕ) → length (octets_sum xs ys) ≤ length xs
sum-le [] ys = omega arith
sum-le (x ∷ xs) [] = omega arith
sum-le (x ∷ xs) (y ∷ ys) = let more : length (octets_sum xs ys) ≤ length xs = sum-le xs ys in omega arith

gctr-le : (key counter octets : List ℕ) → length (gctr key counter octets) ≤ length octets
unfolding gctr
gctr-le key counter octets = sum-le octets _

-- counter mode keeps the length, since it gives the octets back
pub length-gctr : (key counter octets : List ℕ) → ((text : List ℕ) → IsBlock text → IsBlock (aes key text)) → IsBlock counter
    → length (gctr key counter octets) ≡ length octets
length-gctr key counter octets blocks h =
    omega (arith, gctr-le key counter octets, gctr-le key counter (gctr key counter octets), ap length (gctr-gctr key counter octets blocks h))

pub text_again : (key v text : List ℕ) → Encrypts key v → gcm_text key v (gcm_text key v text) ≡ text
unfolding gcm_text
text_again key v text h = gctr-gctr key (increment (first_counter v)) text h.blocks (IsBlock-increment (first_counter v) h.counter)

pub length-gcm_text : (key v text : List ℕ) → Encrypts key v → length (gcm_text key v text) ≡ length text
unfolding gcm_text
length-gcm_text key v text h = length-gctr key (increment (first_counter v)) text h.blocks (IsBlock-increment (first_counter v) h.counter)

-- a frame that is sealed has a right tag, and deciphers to the text
pub right_from : (key v frame text : List ℕ) (tag : Tag) → Encrypts key v → IsSealedFromWith key v tag frame text
    → (is_tag_right_with key v tag frame ≡ true) × (gcm_text key v (enciphered tag frame) ≡ text)
right_from key v frame text tag h s =
    let text_is : gcm_text key v text ≡ enciphered tag frame = ap (λ p. p.0) s in
    let tag_is : gcm_tag key v (additional_data tag frame) (gcm_text key v text) ≡ check_octets tag frame = ap (λ p. p.1) s in
    let same : gcm_tag key v (additional_data tag frame) (enciphered tag frame) ≡ check_octets tag frame =
    ap (gcm_tag key v (additional_data tag frame)) (sym text_is) ∙ tag_is in
    ((bytes_decides _ _).1 same, ap (gcm_text key v) (sym text_is) ∙ text_again key v text h)

-- a frame with a right tag is sealed from what it deciphers to
pub from_right : (key v frame : List ℕ) (tag : Tag) → Encrypts key v → is_tag_right_with key v tag frame ≡ true
    → IsSealedFromWith key v tag frame (gcm_text key v (enciphered tag frame))
from_right key v frame tag w h =
    let same : gcm_tag key v (additional_data tag frame) (enciphered tag frame) ≡ check_octets tag frame = (bytes_decides _ _).0 h in
    let again : gcm_text key v (gcm_text key v (enciphered tag frame)) ≡ enciphered tag frame = text_again key v (enciphered tag frame) w in
    let checked : gcm_tag key v (additional_data tag frame) (gcm_text key v (gcm_text key v (enciphered tag frame))) ≡ check_octets tag frame =
    ap (gcm_tag key v (additional_data tag frame)) again ∙ same in
    λ i. (again i, checked i)

cond_at : {A : Type 0} (b c : Bool) (x y : A) → b ≡ c → cond b x y ≡ cond c x y
cond_at b c x y h = ap (λ (t : Bool). cond t x y) h

pub opened_some : (key v frame text : List ℕ) (tag : Tag) → Encrypts key v → IsSealedFromWith key v tag frame text → opened_with key v tag frame ≡ Some (user_data tag frame text)
opened_some key v frame text tag h s =
    let r = right_from key v frame text tag h s in
    cond_at (is_tag_right_with key v tag frame) true (Some (deciphered_with key v tag frame)) None r.0
    ∙ ap (λ (t : List ℕ). Some (user_data tag frame t)) r.1

by_test : {P : Type 0} (b : Bool) → (b ≡ true → P) → (b ≡ false → P) → P
by_test true f g = f refl
by_test false f g = g refl

pub opened_none : (key v frame : List ℕ) (tag : Tag) → Encrypts key v → ((text : List ℕ) → IsSealedFromWith key v tag frame text → ⊥) → opened_with key v tag frame ≡ None
opened_none key v frame tag w none =
    by_test (is_tag_right_with key v tag frame)
    (λ h. absurd (none _ (from_right key v frame tag w h)))
    (λ h. cond_at (is_tag_right_with key v tag frame) false (Some (deciphered_with key v tag frame)) None h)

some-same : (a b : List ℕ) → Some a ≡ Some b → b ≡ a
some-same a b e = cc

none-some : {P : Type 0} (a : List ℕ) → None ≡ Some a → P
none-some a e = absurd (cc)

pub sealed_from : (key v frame user : List ℕ) (tag : Tag) → Encrypts key v → opened_with key v tag frame ≡ Some user
    → (text : List ℕ) × IsSealedFromWith key v tag frame text × (user ≡ user_data tag frame text)
sealed_from key v frame user tag w e =
    by_test (is_tag_right_with key v tag frame)
    (λ h. (
      gcm_text key v (enciphered tag frame),
      from_right key v frame tag w h,
      some-same _ user (sym (cond_at (is_tag_right_with key v tag frame) true (Some (deciphered_with key v tag frame)) None h) ∙ e),
    ))
    (λ h. none-some user (sym (cond_at (is_tag_right_with key v tag frame) false (Some (deciphered_with key v tag frame)) None h) ∙ e))

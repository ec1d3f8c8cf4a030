-- A frame as it is written is sealed from its user data.
use Rattle.std.proofs.Common.{◌≡◌, ℕ, ◌+◌, Bool, true, false, List, [], ◌++◌, length, take, drop, Some, refl, sym, ap, ◌∙◌, arith}
use Rattle.std.proofs.lemmas.List.{length-append, length-take-le, take_all}
use Rattle.byteorder.specs.Numbers.{length-bytes_high_first}
use Rattle.byteorder.specs.Endian.{big_bytes}
use Rattle.lan_base.specs.declared.association_number.AssociationNumber.{AssociationNumber}
use Rattle.lan_base.specs.declared.address.Sci.{Sci}
use Rattle.lan_base.specs.declared.frame.UserFrame.{UserFrame}
use Rattle.gcm_core.specs.Blocks.{octets_of_bits, block_octets}
use Rattle.gcm_core.specs.Gcm.{gcm, gcm_text, gcm_tag, gctr, hash_key, hashed, first_counter}
use Rattle.aes_block.specs.Aes.{aes, IsBlock, IsKey}
use Rattle.gcm_frames.specs.declared.tag.Tag.{Tag}
use Rattle.gcm_frames.specs.Protected.{iv, sec_tag, head_octets, sealed_octets, protected, protection_octets, IsSent}
use Rattle.gcm_frames.specs.Written.{tag_written}
use Rattle.gcm_frames.specs.Sealed.{opened, IsSealedFrom}
use Rattle.gcm_frames.proofs.Parts.{take_front, take_two, drop_two, middle}
use Rattle.gcm_frames.proofs.Opening.{Encrypts, encrypts, length-gctr, opened_some, length-gcm_text}

length-block : (n : ℕ) → length (block_octets n) ≡ 16
unfolding block_octets
length-block n = refl

pub length-gcm_tag : (key v extra enciphered : List ℕ) → Encrypts key v → length (gcm_tag key v extra enciphered) ≡ 16
unfolding gcm_tag
length-gcm_tag key v extra enciphered h =
    length-gctr key (first_counter v) (octets_of_bits (hashed (hash_key key) extra enciphered)) h.blocks h.counter ∙ length-block _

-- nothing is enciphered to nothing
text_none : (key v : List ℕ) → gcm_text key v [] ≡ []
unfolding gcm_text gctr
text_none key v = refl

pub length-sec_tag : (sci : Sci) (an : AssociationNumber) (pn : ℕ) (conf : Bool) (n : ℕ) → length sci.0 ≡ 8 → length (sec_tag sci an pn conf n) ≡ 16
length-sec_tag sci an pn conf n h = omega (arith, length-append (big_bytes 4 pn) sci.0, length-bytes_high_first 4 pn)

pub length-head : (sci : Sci) (an : AssociationNumber) (pn : ℕ) (conf : Bool) (user : UserFrame) → length sci.0 ≡ 8 → length user.destination.0 ≡ 6
    → length (head_octets sci an pn conf user) ≡ 28
length-head sci an pn conf user h k =
    omega (
      arith,
      length-append user.destination.0 (take 6 sci.0 ++ sec_tag sci an pn conf (length user.body)),
      length-append (take 6 sci.0) (sec_tag sci an pn conf (length user.body)),
      length-take-le 6 sci.0 (omega arith),
      length-sec_tag sci an pn conf (length user.body) h,
    )

-- with confidentiality
opened_conf : (key head body : List ℕ) (sci : Sci) (an : AssociationNumber) (pn : ℕ) → Encrypts key (iv sci pn) → length head ≡ 28
    → opened key (record { sci = sci; an = an; pn = pn; conf = true; start = 28; len = length body }) (sealed_octets key (iv sci pn) true head body) ≡ Some body
unfolding opened
opened_conf key head body sci an pn w long =
    let tag : Tag = record { sci = sci; an = an; pn = pn; conf = true; start = 28; len = length body } in
    let v : List ℕ = iv sci pn in
    let text : List ℕ = gcm_text key v body in
    let check : List ℕ = gcm_tag key v head text in
    let frame : List ℕ = head ++ (text ++ check) in
    let front : take 28 frame ≡ head = take_front head (text ++ check) 28 long in
    let mid : take (length body) (drop 28 frame) ≡ text = middle head text check 28 (length body) long (length-gcm_text key v body w) in
    let back : take 16 (drop (28 + length body) frame) ≡ check =
    ap (take 16) (drop_two head text check 28 (length body) long (length-gcm_text key v body w)) ∙ take_all 16 check (omega (arith, length-gcm_tag key v head text w)) in
    let whole : gcm key v head body ≡ (text, check) = refl in
    let sealed : IsSealedFrom key tag frame body = ap (λ (x : List ℕ). gcm key v x body) front ∙ whole ∙ sym (λ i. (mid i, back i)) in
    opened_some key v frame body tag w sealed

-- without it
opened_plain : (key head body : List ℕ) (sci : Sci) (an : AssociationNumber) (pn : ℕ) → Encrypts key (iv sci pn) → length head ≡ 28
    → opened key (record { sci = sci; an = an; pn = pn; conf = false; start = 28; len = length body }) (sealed_octets key (iv sci pn) false head body) ≡ Some body
unfolding opened
opened_plain key head body sci an pn w long =
    let tag : Tag = record { sci = sci; an = an; pn = pn; conf = false; start = 28; len = length body } in
    let v : List ℕ = iv sci pn in
    let check : List ℕ = (gcm key v (head ++ body) []).1 in
    let frame : List ℕ = head ++ (body ++ check) in
    let front : take (28 + length body) frame ≡ head ++ body = take_two head body check 28 (length body) long refl in
    let mid : take (length body) (drop 28 frame) ≡ body = middle head body check 28 (length body) long refl in
    let back : take 16 (drop (28 + length body) frame) ≡ check =
    ap (take 16) (drop_two head body check 28 (length body) long refl) ∙ take_all 16 check (omega (arith, length-gcm_tag key v (head ++ body) (gcm_text key v []) w)) in
    let whole : gcm key v (head ++ body) [] ≡ ([], check) = λ i. (text_none key v i, check) in
    let sealed : IsSealedFrom key tag frame [] = ap (λ (x : List ℕ). gcm key v x []) front ∙ whole ∙ sym (λ i. ([], back i)) in
    opened_some key v frame [] tag w sealed ∙ ap Some mid

pub reopened : (key : List ℕ) (sci : Sci) (an : AssociationNumber) (pn : ℕ) (conf : Bool) (user : UserFrame)
    → ((k block : List ℕ) → IsKey k → IsBlock block → IsBlock (aes k block)) → IsKey key → IsSent sci pn user
    → opened key (tag_written sci an pn conf user) (protected key sci an pn conf user) ≡ Some user.body
reopened key sci an pn true user ciphers is_key s =
    opened_conf key (head_octets sci an pn true user) user.body sci an pn (encrypts key sci pn ciphers is_key s.channel) (length-head sci an pn true user s.channel.count s.destination)
reopened key sci an pn false user ciphers is_key s =
    opened_plain key (head_octets sci an pn false user) user.body sci an pn (encrypts key sci pn ciphers is_key s.channel) (length-head sci an pn false user s.channel.count s.destination)

-- ---- how long it is

pub longer : (key : List ℕ) (sci : Sci) (an : AssociationNumber) (pn : ℕ) (conf : Bool) (user : UserFrame)
    → ((k block : List ℕ) → IsKey k → IsBlock block → IsBlock (aes k block)) → IsKey key → IsSent sci pn user
    → length (protected key sci an pn conf user) ≡ length user.body + protection_octets
longer key sci an pn true user ciphers is_key s =
    let w = encrypts key sci pn ciphers is_key s.channel in
    let head : List ℕ = head_octets sci an pn true user in
    let text : List ℕ = gcm_text key (iv sci pn) user.body in
    let check : List ℕ = gcm_tag key (iv sci pn) head text in
    omega (arith, length-append head (text ++ check), length-append text check, length-head sci an pn true user s.channel.count s.destination, length-gcm_text key (iv sci pn) user.body w, length-gcm_tag key (iv sci pn) head text w)
longer key sci an pn false user ciphers is_key s =
    let w = encrypts key sci pn ciphers is_key s.channel in
    let head : List ℕ = head_octets sci an pn false user in
    let check : List ℕ = gcm_tag key (iv sci pn) (head ++ user.body) (gcm_text key (iv sci pn) []) in
    omega (arith, length-append head (user.body ++ check), length-append user.body check, length-head sci an pn false user s.channel.count s.destination, length-gcm_tag key (iv sci pn) (head ++ user.body) (gcm_text key (iv sci pn) []) w)

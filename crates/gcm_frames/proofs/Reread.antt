-- A frame as it is written is read again.
use Rattle.std.proofs.Common.{◌≡◌, ℕ, ◌+◌, ◌-◌, ◌/◌, ◌%◌, ◌^◌, ◌<◌, ◌≤◌, ◌==◌, Bool, true, false, not, ◌&&◌, ◌||◌, cond, List, [], ◌∷◌, ◌++◌, length, take, drop, slice_index, nat_lt, nat_le, Option, Some, None, Ok, refl, sym, ap, ◌∙◌, arith}
use Rattle.std.proofs.lemmas.List.{length-append, length-take-le, append_assoc, drop-drop, get_or-append_right}
use Rattle.std.proofs.lemmas.Bool.{ltb-true, ltb-false, lt-ltb, le-ltb, le-leb, lt-leb, ne_eqb}
use Rattle.byteorder.specs.Endian.{big_bytes, big_number}
use Rattle.byteorder.specs.Numbers.{length-bytes_high_first, big_number-reads_back}
use Rattle.lan_base.specs.declared.association_number.AssociationNumber.{AssociationNumber}
use Rattle.lan_base.specs.declared.association_number.AssociationNumber.TheVariants.{An0, An1, An2, An3}
use Rattle.lan_base.specs.AssociationNumbers.{of_bits}
use Rattle.lan_base.specs.declared.address.Sci.{Sci}
use Rattle.lan_base.specs.declared.frame.UserFrame.{UserFrame}
use Rattle.gcm_frames.specs.declared.tag.TagRefusal.{TagRefusal}
use Rattle.gcm_frames.specs.declared.tag.TagRefusal.TheVariants.{NotSec, Version, Mode, Short, SlWrong}
use Rattle.gcm_frames.specs.Protected.{control_octet, short_length, iv, sec_tag, head_octets, protected, IsSent}
use Rattle.gcm_frames.specs.Written.{tag_written}
use Rattle.gcm_frames.specs.Tags.{are_same, is_sec, has_control, has_version, is_mode, is_short, is_length_wrong, has_sci, start_of, sci_of, data_length, refused, fields_or, tag_fields}
use Rattle.gcm_frames.proofs.Parts.{take_front, drop_front}
use Rattle.gcm_frames.proofs.Opening.{encrypts, length-gcm_text}
use Rattle.aes_block.specs.Aes.{aes, IsBlock, IsKey}
use Rattle.gcm_frames.proofs.Reopened.{length-sec_tag, length-gcm_tag}
use Rattle.gcm_core.specs.Gcm.{gcm_text, gcm_tag}

-- the flags of an octet of control information
record Flags (control : ℕ) (conf : Bool) (an : AssociationNumber) : Type 0 where
  version : (control / 0x80 % 2 == 1) ≡ false
  end_station : (control / 0x40 % 2 == 1) ≡ false
  explicit : (control / 0x20 % 2 == 1) ≡ true
  broadcast : (control / 0x10 % 2 == 1) ≡ false
  enciphered : (control / 0x08 % 2 == 1) ≡ conf
  changed : (control / 0x04 % 2 == 1) ≡ conf
  number : of_bits (control / 0x02 % 2 == 1) (control / 0x01 % 2 == 1) ≡ an

flags : (conf : Bool) (an : AssociationNumber) → Flags (control_octet conf an) conf an
flags true An0 = record { version = refl; end_station = refl; explicit = refl; broadcast = refl; enciphered = refl; changed = refl; number = refl }
flags true An1 = record { version = refl; end_station = refl; explicit = refl; broadcast = refl; enciphered = refl; changed = refl; number = refl }
flags true An2 = record { version = refl; end_station = refl; explicit = refl; broadcast = refl; enciphered = refl; changed = refl; number = refl }
flags true An3 = record { version = refl; end_station = refl; explicit = refl; broadcast = refl; enciphered = refl; changed = refl; number = refl }
flags false An0 = record { version = refl; end_station = refl; explicit = refl; broadcast = refl; enciphered = refl; changed = refl; number = refl }
flags false An1 = record { version = refl; end_station = refl; explicit = refl; broadcast = refl; enciphered = refl; changed = refl; number = refl }
flags false An2 = record { version = refl; end_station = refl; explicit = refl; broadcast = refl; enciphered = refl; changed = refl; number = refl }
flags false An3 = record { version = refl; end_station = refl; explicit = refl; broadcast = refl; enciphered = refl; changed = refl; number = refl }

-- a frame of addresses, the EtherType, two octets, and what is behind
record Written (frame : List ℕ) (control short : ℕ) (behind : List ℕ) : Type 0 where
  first : slice_index frame 12 ≡ 0x88
  second : slice_index frame 13 ≡ 0xe5
  third : slice_index frame 14 ≡ control
  fourth : slice_index frame 15 ≡ short
  rest : drop 16 frame ≡ behind

written : (pre behind : List ℕ) (control short : ℕ) → length pre ≡ 12 → Written (pre ++ (0x88 ∷ 0xe5 ∷ control ∷ short ∷ behind)) control short behind
written pre behind control short h =
    let tail : List ℕ = 0x88 ∷ 0xe5 ∷ control ∷ short ∷ behind in
    record {
      first = get_or-append_right pre tail 12 12 0 h (omega arith);
      second = get_or-append_right pre tail 12 13 0 h (omega arith);
      third = get_or-append_right pre tail 12 14 0 h (omega arith);
      fourth = get_or-append_right pre tail 12 15 0 h (omega arith);
      rest = further;
    }
  where
    further : drop 16 (pre ++ (0x88 ∷ 0xe5 ∷ control ∷ short ∷ behind)) ≡ behind
    further =
        ap (drop 16) (sym (append_assoc pre (0x88 ∷ 0xe5 ∷ control ∷ short ∷ []) behind))
        ∙ drop_front (pre ++ (0x88 ∷ 0xe5 ∷ control ∷ short ∷ [])) behind 16 (omega (arith, length-append pre (0x88 ∷ 0xe5 ∷ control ∷ short ∷ [])))

-- none of five refusals applies
none_from : (a b c d e : Bool) (v w x y z : TagRefusal) → a ≡ false → b ≡ false → c ≡ false → d ≡ false → e ≡ false
    → cond a (Some v) (cond b (Some w) (cond c (Some x) (cond d (Some y) (cond e (Some z) None)))) ≡ None
none_from a b c d e v w x y z ha hb hc hd he =
    λ i. cond (ha i) (Some v) (cond (hb i) (Some w) (cond (hc i) (Some x) (cond (hd i) (Some y) (cond (he i) (Some z) None))))

same_itself : (b : Bool) → are_same b b ≡ true
same_itself true = refl
same_itself false = refl

by_test : {P : Type 0} (b : Bool) → (b ≡ true → P) → (b ≡ false → P) → P
by_test true f g = f refl
by_test false f g = g refl

-- the short length of so many octets is right, and tells how many there are
length_right : (n len : ℕ) → 2 ≤ n → len ≡ 28 + n + 16
    → (nat_le 48 (short_length n) || ((short_length n == 0) && nat_lt len (28 + 64))) ≡ false
length_right n len some h =
    by_test (nat_lt n 48)
    (λ t. let e : short_length n ≡ n = ap (λ (b : Bool). cond b n 0) t in
    ap (λ (s : ℕ). nat_le 48 s || ((s == 0) && nat_lt len 92)) e
    ∙ (λ i. lt-leb 48 n (ltb-true n 48 t) i || (ne_eqb n 0 (λ z. omega arith) i && nat_lt len 92)))
    (λ t. let e : short_length n ≡ 0 = ap (λ (b : Bool). cond b n 0) t in
    ap (λ (s : ℕ). nat_le 48 s || ((s == 0) && nat_lt len 92)) e
    ∙ le-ltb len 92 (omega (arith, ltb-false n 48 t)))

length_told : (n len : ℕ) → 2 ≤ n → len ≡ 28 + n + 16
    → cond (short_length n == 0) (len - (28 + 16)) (short_length n) ≡ n
length_told n len some h =
    by_test (nat_lt n 48)
    (λ t. let e : short_length n ≡ n = ap (λ (b : Bool). cond b n 0) t in
    ap (λ (s : ℕ). cond (s == 0) (len - 44) s) e ∙ ap (λ (b : Bool). cond b (len - 44) n) (ne_eqb n 0 (λ z. omega arith)))
    (λ t. let e : short_length n ≡ 0 = ap (λ (b : Bool). cond b n 0) t in
    ap (λ (s : ℕ). cond (s == 0) (len - 44) s) e ∙ omega arith)

short-le : (n : ℕ) → short_length n ≤ n
short-le n =
    by_test (nat_lt n 48)
    (λ t. let e : short_length n ≡ n = ap (λ (b : Bool). cond b n 0) t in omega arith)
    (λ t. let e : short_length n ≡ 0 = ap (λ (b : Bool). cond b n 0) t in omega arith)

abbrev of_octets : List ℕ → Sci
of_octets octets = record { 0 = octets }

-- a frame of which the octets are so is read
read_again : (frame rest : List ℕ) (sci : Sci) (an : AssociationNumber) (pn n : ℕ) (conf : Bool) → pn < 2 ^ 32 → 2 ≤ n → length sci.0 ≡ 8
    → length frame ≡ 28 + n + 16
    → Written frame (control_octet conf an) (short_length n) ((big_bytes 4 pn ++ sci.0) ++ rest)
    → tag_fields frame ≡ Ok (record { sci = sci; an = an; pn = pn; conf = conf; start = 28; len = n })
unfolding tag_fields
read_again frame rest sci an pn n conf h32 some h8 long w =
    let f : Flags (control_octet conf an) conf an = flags conf an in
    let flag : (k : ℕ) → (slice_index frame 14 / k % 2 == 1) ≡ (control_octet conf an / k % 2 == 1) =
    λ k. ap (λ (c : ℕ). c / k % 2 == 1) w.third in
    let explicit : has_sci frame ≡ true = flag 0x20 ∙ f.explicit in
    let begins : start_of frame ≡ 28 = ap (λ (b : Bool). cond b 28 20) explicit in
    let sec : not (is_sec frame) ≡ false =
    λ i. not (le-leb 14 (length frame) (omega arith) i && (w.first i == 0x88) && (w.second i == 0xe5)) in
    let version : (has_control frame && has_version frame) ≡ false =
    λ i. lt-ltb 14 (length frame) (omega arith) i && ((flag 0x80 ∙ f.version) i) in
    let mode : is_mode frame ≡ true =
    (λ i. not ((flag 0x10 ∙ f.broadcast) i) && not (are_same ((flag 0x40 ∙ f.end_station) i) (explicit i))
    && are_same ((flag 0x08 ∙ f.enciphered) i) ((flag 0x04 ∙ f.changed) i)) ∙ same_itself conf in
    let moded : (has_control frame && not (is_mode frame)) ≡ false =
    λ i. lt-ltb 14 (length frame) (omega arith) i && not (mode i) in
    let short : is_short frame ≡ false =
    le-ltb (length frame) _ (omega (arith, begins, w.fourth, short-le n)) in
    let wrong : is_length_wrong frame ≡ false =
    (λ i. nat_le 48 (w.fourth i) || ((w.fourth i == 0) && nat_lt (length frame) (begins i + 64))) ∙ length_right n (length frame) some long in
    let none : refused frame ≡ None =
    none_from (not (is_sec frame)) (has_control frame && has_version frame) (has_control frame && not (is_mode frame))
    (is_short frame) (is_length_wrong frame) NotSec Version Mode Short SlWrong sec version moded short wrong in
    let count : data_length frame ≡ n =
    (λ i. cond (w.fourth i == 0) (length frame - (begins i + 16)) (w.fourth i)) ∙ length_told n (length frame) some long in
    let sender : take 8 (drop 20 frame) ≡ sci.0 =
    ap (take 8) (sym (drop-drop 4 16 frame) ∙ ap (drop 4) (w.rest ∙ append_assoc (big_bytes 4 pn) sci.0 rest)
    ∙ drop_front (big_bytes 4 pn) (sci.0 ++ rest) 4 (length-bytes_high_first 4 pn))
    ∙ take_front sci.0 rest 8 h8 in
    let from : sci_of frame ≡ sci =
    ap (λ (b : Bool). cond b (of_octets (take 8 (drop 20 frame))) (of_octets (take 6 (drop 6 frame) ++ 0 ∷ 1 ∷ []))) explicit
    ∙ ap of_octets sender in
    let packet : big_number 4 (drop 16 frame) ≡ pn =
    ap (big_number 4) (w.rest ∙ append_assoc (big_bytes 4 pn) sci.0 rest) ∙ big_number-reads_back 4 pn (sci.0 ++ rest) h32 in
    ap (λ (r : Option TagRefusal). fields_or r frame) none
    ∙ (λ i. Ok (record { sci = from i; an = (ap (λ (c : ℕ). of_bits (c / 0x02 % 2 == 1) (c / 0x01 % 2 == 1)) w.third ∙ f.number) i; pn = packet i; conf = (flag 0x08 ∙ f.enciphered) i; start = begins i; len = count i }))

-- a head, and as many octets as the secure data and a tag have
reread_head : (more : List ℕ) (sci : Sci) (an : AssociationNumber) (pn : ℕ) (conf : Bool) (user : UserFrame) → IsSent sci pn user
    → length more ≡ length user.body + 16
    → tag_fields (head_octets sci an pn conf user ++ more) ≡ Ok (tag_written sci an pn conf user)
reread_head more sci an pn conf user s long =
    let pre : List ℕ = user.destination.0 ++ take 6 sci.0 in
    let tag : List ℕ = sec_tag sci an pn conf (length user.body) in
    let frame : List ℕ = head_octets sci an pn conf user ++ more in
    let short : length pre ≡ 12 =
    omega (arith, length-append user.destination.0 (take 6 sci.0), length-take-le 6 sci.0 (omega (arith, s.channel.count)), s.destination) in
    let whole : frame ≡ pre ++ (tag ++ more) =
    ap (λ (x : List ℕ). x ++ more) (sym (append_assoc user.destination.0 (take 6 sci.0) tag)) ∙ append_assoc pre tag more in
    let there : Written (pre ++ (tag ++ more)) (control_octet conf an) (short_length (length user.body)) ((big_bytes 4 pn ++ sci.0) ++ more) =
    written pre ((big_bytes 4 pn ++ sci.0) ++ more) (control_octet conf an) (short_length (length user.body)) short in
    let count : length (pre ++ (tag ++ more)) ≡ 28 + length user.body + 16 =
    omega (arith, length-append pre (tag ++ more), length-append tag more, length-sec_tag sci an pn conf (length user.body) s.channel.count) in
    ap tag_fields whole
    ∙ read_again (pre ++ (tag ++ more)) more sci an pn (length user.body) conf s.last s.body.0 s.channel.count count there

pub reread : (key : List ℕ) (sci : Sci) (an : AssociationNumber) (pn : ℕ) (conf : Bool) (user : UserFrame)
    → ((k block : List ℕ) → IsKey k → IsBlock block → IsBlock (aes k block)) → IsKey key → IsSent sci pn user
    → tag_fields (protected key sci an pn conf user) ≡ Ok (tag_written sci an pn conf user)
reread key sci an pn true user ciphers is_key s =
    let w = encrypts key sci pn ciphers is_key s.channel in
    let head : List ℕ = head_octets sci an pn true user in
    let text : List ℕ = gcm_text key (iv sci pn) user.body in
    let check : List ℕ = gcm_tag key (iv sci pn) head text in
    reread_head (text ++ check) sci an pn true user s
    (omega (arith, length-append text check, length-gcm_text key (iv sci pn) user.body w, length-gcm_tag key (iv sci pn) head text w))
reread key sci an pn false user ciphers is_key s =
    let w = encrypts key sci pn ciphers is_key s.channel in
    let head : List ℕ = head_octets sci an pn false user in
    let check : List ℕ = gcm_tag key (iv sci pn) (head ++ user.body) (gcm_text key (iv sci pn) []) in
    reread_head (user.body ++ check) sci an pn false user s
    (omega (arith, length-append user.body check, length-gcm_tag key (iv sci pn) (head ++ user.body) (gcm_text key (iv sci pn) []) w))

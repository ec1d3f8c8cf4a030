-- The definitions at worked key texts.
use Rattle.std.specs.Prelude.{codes}
use Rattle.std.proofs.Common.{◌≡◌, ℕ, List, [], ◌∷◌, ◌++◌, Ok, Err, refl}
use Rattle.hex.proofs.OnLiterals.{hex_on_literals}
use Rattle.aes_block.specs.declared.secret.Secret.TheVariants.{S128, S256}
use Rattle.known_keys.specs.declared.sender.Sender.TheVariants.{Any, One}
use Rattle.lan_base.specs.declared.association_number.AssociationNumber.TheVariants.{An0, An3}
use Rattle.packet_verdicts.specs.Groups.{derived_keys}
use Rattle.trace_text.specs.declared.fault.TextFault.TheVariants.{Count, Hex, Word}
use Rattle.audit_text.specs.Reading.{key_line_in}
use Rattle.key_ring.specs.Rings.{no_ring, ring_in}
use Rattle.key_ring.specs.Reading.{file_in}

-- a line of the key text
abbrev group_line : List ℕ
group_line = codes "group 000102030405060708090a0b0c0d0e0f 01020304"

abbrev section_front : List ℕ
section_front = 0x0a ∷ 0x0d ∷ 0x0d ∷ 0x0a ∷ 28 ∷ []

abbrev sixteen : List ℕ
sixteen = 0 ∷ 1 ∷ 2 ∷ 3 ∷ 4 ∷ 5 ∷ 6 ∷ 7 ∷ 8 ∷ 9 ∷ 10 ∷ 11 ∷ 12 ∷ 13 ∷ 14 ∷ 15 ∷ []

-- one group, and a capture behind it
one_group : ring_in (group_line ++ 10 ∷ section_front)
    ≡ Ok (record { groups = derived_keys sixteen (1 ∷ 2 ∷ 3 ∷ 4 ∷ []) ∷ []; hand = [] })
unfolding key_line_in hex_on_literals
one_group = refl

its_capture : file_in (group_line ++ 10 ∷ section_front) ≡ section_front
unfolding key_line_in hex_on_literals
its_capture = refl

-- and behind a line `capture`, which adds nothing
group_and_capture : ring_in (group_line ++ 10 ∷ codes "capture" ++ 10 ∷ codes "key" ++ 10 ∷ [])
    ≡ Ok (record { groups = derived_keys sixteen (1 ∷ 2 ∷ 3 ∷ 4 ∷ []) ∷ []; hand = [] })
unfolding key_line_in hex_on_literals
group_and_capture = refl

behind_its_line : file_in (group_line ++ 10 ∷ codes "capture" ++ 10 ∷ codes "key" ++ 10 ∷ []) ≡ codes "key" ++ 10 ∷ []
unfolding key_line_in hex_on_literals
behind_its_line = refl

-- as the last line without a line feed it is a line, too, and what has words behind it is refused
capture_alone : ring_in (codes "capture") ≡ Ok no_ring
unfolding key_line_in
capture_alone = refl

with_words : ring_in (codes "capture # x" ++ 10 ∷ section_front) ≡ Err (record { line = 1; why = Count })
unfolding key_line_in
with_words = refl

before_it : ring_in (codes "key" ++ 10 ∷ codes "capture" ++ 10 ∷ section_front) ≡ Err (record { line = 1; why = Word })
unfolding key_line_in
before_it = refl

-- alone it has no capture, with a line feed or without
alone : ring_in group_line ≡ Ok (record { groups = derived_keys sixteen (1 ∷ 2 ∷ 3 ∷ 4 ∷ []) ∷ []; hand = [] })
unfolding key_line_in hex_on_literals
alone = refl

no_capture : file_in (group_line ++ 10 ∷ []) ≡ []
unfolding key_line_in hex_on_literals
no_capture = refl

-- a line without its line feed, directly before a section: the section's first octet ends it, and the
-- second line is none
no_feed : ring_in (group_line ++ section_front) ≡ Err (record { line = 2; why = Word })
unfolding key_line_in hex_on_literals
no_feed = refl

-- the first refused line is told, whatever is behind it
refused : ring_in (codes "group 00 01" ++ 10 ∷ codes "key" ++ 10 ∷ section_front)
    ≡ Err (record { line = 1; why = Hex })
unfolding key_line_in hex_on_literals
refused = refl

third : ring_in (group_line ++ 10 ∷ codes "# sak" ++ 10 ∷ codes "key" ++ 10 ∷ section_front)
    ≡ Err (record { line = 3; why = Word })
unfolding key_line_in hex_on_literals
third = refl

-- keys that are set by hand have the numbers of their lines
by_hand : ring_in (10 ∷ codes "sak any 0 000102030405060708090a0b0c0d0e0f" ++ 13 ∷ 10
    ∷ codes "sak 02000000000a0001 3 000102030405060708090a0b0c0d0e0f000102030405060708090a0b0c0d0e0f")
    ≡ Ok (record {
      groups = [];
      hand = record { line = 2; sender = Any; an = An0; sak = S128 sixteen } ∷ record {
        line = 3;
        sender = One (record { 0 = 2 ∷ 0 ∷ 0 ∷ 0 ∷ 0 ∷ 10 ∷ 0 ∷ 1 ∷ [] });
        an = An3;
        sak = S256 (sixteen ++ sixteen);
      } ∷ [];
    })
unfolding key_line_in hex_on_literals
by_hand = refl

-- a capture without keys
no_keys : ring_in section_front ≡ Ok no_ring
no_keys = refl

no_input : ring_in [] ≡ Ok no_ring
no_input = refl

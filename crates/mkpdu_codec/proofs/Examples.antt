-- The definitions, computed on a hello: an announcement that lists nobody and says nothing of keys.
use Rattle.std.specs.Prelude.{◌≡◌, ℕ, ◌+◌, false, List, [], ◌∷◌, ◌++◌, length, replicate, Some, None, Ok}
use Rattle.std.proofs.Common.{refl}
use Rattle.mkpdu_codec.specs.declared.announcement.Announcement.{Announcement}
use Rattle.lan_base.specs.declared.association_number.AssociationNumber.TheVariants.{An2}
use Rattle.mkpdu_codec.specs.declared.offset.ConfidentialityOffset.TheVariants as offsets
use Rattle.mkpdu_codec.specs.declared.wrapped_key.WrappedKey.TheVariants.{Aes128, Aes256, Xpn128, Xpn256, Other}
use Rattle.mkpdu_codec.specs.Refusals.{refused, refused_sets}
use Rattle.mkpdu_codec.specs.Fields.{number_at, mi_at, sci_at, set_at, entries_at, peers_in, uses_in, key_in, given_in, highs_in, basic_in, basic_at}
use Rattle.mkpdu_codec.specs.Reading.{parts_at, shaped_at, placed, gathered, reading}
use Rattle.mkpdu_codec.specs.Written.{frame_header, sets, written, most_written}
use Rattle.mkpdu_codec.specs.Sets.{gcm_aes_xpn_128, gcm_aes_xpn_256, set}

abbrev hello : Announcement
hello = record {
  source = record { 0 = 2 ∷ 0 ∷ 0 ∷ 0 ∷ 0 ∷ 0x0a ∷ [] };
  priority = 0x10;
  server = false;
  sci = record { 0 = 2 ∷ 0 ∷ 0 ∷ 0 ∷ 0 ∷ 0x0a ∷ 0 ∷ 1 ∷ [] };
  mi = record { 0 = 0 ∷ 0 ∷ 0 ∷ 0 ∷ 0 ∷ 0 ∷ 0 ∷ 0 ∷ 0 ∷ 0 ∷ 0 ∷ 1 ∷ [] };
  mn = 1;
  ckn = 1 ∷ 2 ∷ 3 ∷ 4 ∷ [];
  live = [];
  potential = [];
  uses = None;
  given = None;
  highs = None;
}

hello_written : written hello ≡ 0x01 ∷ 0x80 ∷ 0xc2 ∷ 0x00 ∷ 0x00 ∷ 0x03 ∷ 0x02 ∷ 0x00 ∷ 0x00 ∷ 0x00 ∷ 0x00 ∷ 0x0a ∷ 0x88 ∷ 0x8e ∷ 0x03 ∷ 0x05 ∷ 0x00 ∷ 0x34 ∷ 0x01 ∷ 0x10 ∷ 0x60 ∷ 0x20 ∷ 0x02 ∷ 0x00 ∷ 0x00 ∷ 0x00 ∷ 0x00 ∷ 0x0a ∷ 0x00 ∷ 0x01 ∷ 0x00 ∷ 0x00 ∷ 0x00 ∷ 0x00 ∷ 0x00 ∷ 0x00 ∷ 0x00 ∷ 0x00 ∷ 0x00 ∷ 0x00 ∷ 0x00 ∷ 0x01 ∷ 0x00 ∷ 0x00 ∷ 0x00 ∷ 0x01 ∷ 0x00 ∷ 0x80 ∷ 0xc2 ∷ 0x01 ∷ 0x01 ∷ 0x02 ∷ 0x03 ∷ 0x04 ∷ []
hello_written = refl

at_most : most_written 160 ≡ 2750
at_most = refl

hello_read : reading (written hello ++ replicate 16 7) ≡ Ok (record { announcement = hello; covered = 54; check = replicate 16 7 })
unfolding reading parts_at basic_at basic_in set_at sci_at mi_at number_at gathered peers_in entries_at uses_in given_in highs_in
hello_read = refl

hello_not_refused : refused (written hello ++ replicate 16 7) ≡ None
unfolding refused refused_sets
hello_not_refused = refl

-- and that gives a key for GCM-AES-256
abbrev giving : Announcement
giving = record hello { given = Some (record { an = An2; offset = offsets.Octets50; number = 5; key = Aes256 (replicate 40 9) }) }

giving_read : reading (written giving ++ replicate 16 7) ≡ Ok (record { announcement = giving; covered = 110; check = replicate 16 7 })
unfolding reading parts_at basic_at basic_in set_at sci_at mi_at number_at gathered shaped_at placed peers_in entries_at uses_in given_in highs_in
giving_read = refl

-- and that gives one for GCM-AES-XPN-128
abbrev giving_xpn : Announcement
giving_xpn = record hello { given = Some (record { an = An2; offset = offsets.Octets0; number = 5; key = Xpn128 (replicate 24 9) }) }

giving_xpn_read : reading (written giving_xpn ++ replicate 16 7) ≡ Ok (record { announcement = giving_xpn; covered = 94; check = replicate 16 7 })
unfolding reading parts_at basic_at basic_in set_at sci_at mi_at number_at gathered shaped_at placed peers_in entries_at uses_in given_in highs_in
giving_xpn_read = refl

-- ---- the keys of suites

a_key_alone : key_in (replicate 24 9) ≡ Aes128 (replicate 24 9)
a_key_alone = refl

a_key_of_xpn_128 : key_in (gcm_aes_xpn_128 ++ replicate 24 9) ≡ Xpn128 (replicate 24 9)
a_key_of_xpn_128 = refl

a_key_of_xpn_256 : key_in (gcm_aes_xpn_256 ++ replicate 40 9) ≡ Xpn256 (replicate 40 9)
a_key_of_xpn_256 = refl

-- a wrapped key of another length is none of its suite
a_long_key_of_xpn_128 : key_in (gcm_aes_xpn_128 ++ replicate 40 9) ≡ Other
a_long_key_of_xpn_128 = refl

a_short_key_of_xpn_256 : key_in (gcm_aes_xpn_256 ++ replicate 24 9) ≡ Other
a_short_key_of_xpn_256 = refl

-- ---- high halves

-- a hello with further sets
abbrev hello_with : List ℕ → List ℕ
hello_with more = frame_header hello.source.0 (length (sets hello ++ more) + 16) ++ (sets hello ++ more)

abbrev highs_set : ℕ → ℕ → List ℕ
highs_set latest old = set 8 0 0 (0 ∷ 0 ∷ 0 ∷ latest ∷ 0 ∷ 0 ∷ 0 ∷ old ∷ [])

abbrev showing : Announcement
showing = record hello { highs = Some (record { latest = 1; old = 2 }) }

showing_read : reading (hello_with (highs_set 1 2) ++ replicate 16 7) ≡ Ok (record { announcement = showing; covered = 66; check = replicate 16 7 })
unfolding reading parts_at basic_at basic_in set_at sci_at mi_at number_at gathered shaped_at placed peers_in entries_at uses_in given_in highs_in
showing_read = refl

-- a set of another length is skipped, and a second one of this length, too
the_first_read : reading (hello_with (set 8 0 0 (replicate 12 5) ++ (highs_set 1 2 ++ highs_set 3 4)) ++ replicate 16 7) ≡ Ok (record { announcement = showing; covered = 94; check = replicate 16 7 })
unfolding reading parts_at basic_at basic_in set_at sci_at mi_at number_at gathered shaped_at placed peers_in entries_at uses_in given_in highs_in
the_first_read = refl

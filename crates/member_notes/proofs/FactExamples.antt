-- Worked captures of what members say.
use Rattle.std.proofs.Common.{◌≡◌, ◌*◌, ℕ, Bool, true, false, List, [], ◌∷◌, Option, Some, None, refl}
use Rattle.lan_base.specs.declared.address.Mi.{Mi}
use Rattle.lan_base.specs.declared.address.Sci.{Sci}
use Rattle.lan_base.specs.declared.association_number.AssociationNumber.TheVariants.{An0}
use Rattle.mkpdu_codec.specs.declared.given.Given.{Given}
use Rattle.mkpdu_codec.specs.declared.key_use.KeyUse.{KeyUse}
use Rattle.mkpdu_codec.specs.declared.key_use.Uses.{Uses}
use Rattle.mkpdu_codec.specs.declared.offset.ConfidentialityOffset.TheVariants.{Octets0}
use Rattle.mkpdu_codec.specs.declared.peer.Peer.{Peer}
use Rattle.mkpdu_codec.specs.declared.wrapped_key.WrappedKey.TheVariants.{Other}
use Rattle.member_notes.specs.declared.facts.Member.{Member}
use Rattle.member_notes.specs.declared.facts.MemberCounts.{MemberCounts}
use Rattle.member_notes.specs.Facts.{member_told, sums_of}
use Rattle.member_notes.specs.Spoken.{Spoken}

abbrev mi : ℕ → Mi
mi n = record { 0 = n ∷ [] }

abbrev sci : ℕ → Sci
sci n = record { 0 = n ∷ [] }

abbrev peer : ℕ → Peer
peer n = record { mi = mi n; mn = 1 }

-- packet, member, message number, time in milliseconds, whether it serves, whom it lists, what it
-- shows, and what it gives
abbrev says : ℕ → ℕ → ℕ → ℕ → Bool → List Peer → Option Uses → Option Given → Spoken
says packet member mn time server live uses given = record {
  mkpdu = record { packet = packet; group = 1; mi = mi member; mn = mn; check = mn ∷ [] };
  nanos = time * 1000000;
  said = record {
    source = record { 0 = member ∷ [] };
    priority = 16;
    server = server;
    sci = sci member;
    mi = mi member;
    mn = mn;
    ckn = [];
    live = live;
    potential = [];
    uses = uses;
    given = given;
    highs = None;
  };
}

abbrev hello : ℕ → ℕ → ℕ → ℕ → Bool → List Peer → Spoken
hello packet member mn time server live = says packet member mn time server live None None

abbrev gives : ℕ → ℕ → ℕ → ℕ → Spoken
gives packet member mn number = says packet member mn 100 true [] None (Some (record { an = An0; offset = Octets0; number = number; key = Other }))

abbrev plain : ℕ → ℕ → MemberCounts
plain member mkpdus = record {
  sci = sci member;
  mkpdus = mkpdus;
  again = 0;
  given = 0;
  fell = record { count = 0; first = 0 };
  servers = record { count = 0; first = 0 };
  returned = record { count = 0; first = 0 };
  high = record { count = 0; first = 0 };
}

abbrev told : ℕ → MemberCounts → Option Member
told member counts = Some (record { group = 1; mi = mi member; counts = counts })

-- 7 serves and lists 8; then 8 serves and lists 7
two_servers : member_told 1 (mi 8) (hello 2 8 1 5999 true (peer 7 ∷ []) ∷ hello 1 7 1 0 true (peer 8 ∷ []) ∷ [])
    ≡ told 8 (record (plain 8 1) { servers = record { count = 1; first = 2 } })
two_servers = refl

-- it is told of the second alone
first_server : member_told 1 (mi 7) (hello 2 8 1 5999 true (peer 7 ∷ []) ∷ hello 1 7 1 0 true (peer 8 ∷ []) ∷ [])
    ≡ told 7 (plain 7 1)
first_server = refl

-- a life time later
old_server : member_told 1 (mi 8) (hello 2 8 1 6000 true (peer 7 ∷ []) ∷ hello 1 7 1 0 true (peer 8 ∷ []) ∷ [])
    ≡ told 8 (plain 8 1)
old_server = refl

-- first hellos list nobody as live
first_hellos : member_told 1 (mi 8) (hello 2 8 1 100 true [] ∷ hello 1 7 1 0 true [] ∷ [])
    ≡ told 8 (plain 8 1)
first_hellos = refl

-- 7 has stopped to serve
served_before : member_told 1 (mi 8)
    (hello 3 8 1 200 true (peer 7 ∷ []) ∷ hello 2 7 2 100 false (peer 8 ∷ []) ∷ hello 1 7 1 0 true (peer 8 ∷ []) ∷ [])
    ≡ told 8 (plain 8 1)
served_before = refl

-- keys 2, 3 and 2 again; the last one once more, and behind it one that fell
returned : member_told 1 (mi 7) (gives 5 7 2 1 ∷ gives 4 7 4 2 ∷ gives 3 7 4 2 ∷ gives 2 7 3 3 ∷ gives 1 7 1 2 ∷ [])
    ≡ told 7 (record (plain 7 5) {
      again = 1;
      given = 3;
      fell = record { count = 1; first = 5 };
      returned = record { count = 1; first = 3 };
    })
returned = refl

abbrev key_use : ℕ → KeyUse
key_use lowest = record { server = mi 7; number = 1; an = An0; tx = false; rx = true; lowest = lowest }

abbrev shows : ℕ → ℕ → ℕ → ℕ → Spoken
shows packet mn latest old =
    says packet 7 mn 0 false [] (Some (record { latest = key_use latest; old = key_use old })) None

-- at the number, above it as the old key, and as the latest one
high : member_told 1 (mi 7) (shows 3 3 3221225473 1 ∷ shows 2 2 1 3221225473 ∷ shows 1 1 3221225472 3221225472 ∷ [])
    ≡ told 7 (record (plain 7 3) { high = record { count = 2; first = 2 } })
high = refl

nobody : member_told 2 (mi 7) (hello 1 7 1 0 true [] ∷ []) ≡ None
nobody = refl

-- two members of one station, and one of another
abbrev three : List Member
three = record { group = 1; mi = mi 7; counts = record (plain 7 1) { fell = record { count = 2; first = 1 } } }
    ∷ record { group = 1; mi = mi 8; counts = record (plain 7 1) { fell = record { count = 3; first = 1 } } }
    ∷ record { group = 1; mi = mi 9; counts = plain 9 1 } ∷ []

sums : sums_of three ≡ record { members = 3; scis = 2; fell = 5; servers = 0; returned = 0; high = 0 }
sums = refl

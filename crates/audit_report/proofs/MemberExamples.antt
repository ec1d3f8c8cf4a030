-- The lines of a change, of a member, and of all members.
use Rattle.std.specs.Fmt.{digits}
use Rattle.std.specs.Prelude.{codes, replicate}
use Rattle.hex.specs.Hex.{encode_with}
use Rattle.std.proofs.Common.{◌≡◌, [], ◌∷◌, ◌++◌, refl}
use Rattle.lan_base.specs.declared.address.Mi.{Mi}
use Rattle.lan_base.specs.declared.address.Sci.{Sci}
use Rattle.audit_report.specs.Changes.{change_lines}
use Rattle.audit_report.specs.Members.{member_lines, sums_line}

abbrev a : Sci
a = record { 0 = 2 ∷ 0 ∷ 0 ∷ 0 ∷ 0 ∷ 10 ∷ 0 ∷ 1 ∷ [] }

abbrev m1 : Mi
m1 = record { 0 = replicate 11 0 ++ 1 ∷ [] }

changed : change_lines (record {
  sci = a;
  from = 1;
  to = 2;
  last = 30;
  first = 41;
  gap = 500;
  after = 3;
  behind = 1200;
} ∷ [])
    ≡ codes "change 02000000000a0001 1 2 last 30 first 41 gap 500 after 3 1200" ++ 10 ∷ []
unfolding digits encode_with
changed = refl

told_of_a_member : member_lines (record {
  group = 1;
  mi = m1;
  counts = record {
    sci = a;
    mkpdus = 40;
    again = 1;
    given = 2;
    fell = record { count = 3; first = 9 };
    servers = record { count = 0; first = 0 };
    returned = record { count = 4; first = 12 };
    high = record { count = 5; first = 17 };
  };
} ∷ [])
    ≡ codes "member 1 000000000000000000000001 sci 02000000000a0001 mkpdus 40 again 1 given 2 fell 3 9 servers 0 0 returned 4 12 high 5 17" ++ 10 ∷ []
unfolding digits encode_with
told_of_a_member = refl

told_of_all : sums_line (record { members = 3; scis = 2; fell = 1; servers = 0; returned = 4; high = 5 })
    ≡ codes "mka members 3 scis 2 fell 1 servers 0 returned 4 high 5" ++ 10 ∷ []
unfolding digits encode_with
told_of_all = refl

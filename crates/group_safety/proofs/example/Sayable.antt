-- Announcements that a station of the group may say, decided.
use Rattle.std.proofs.Common.{◌≡◌, ◌^◌, refl, sym, subst, List, [], ◌∷◌, Bool, true, Option, Some, None}
use Rattle.std.proofs.Common.{length, arith}
use Rattle.std.specs.Prelude.{◌==◌, ◌&&◌, nat_lt, nat_le, nat_eq, is_none, take, All, IfSome}
use Rattle.std.specs.List.{list_all}
use Rattle.std.proofs.lemmas.Bool.{and_parts, eqb-true, ltb-true, leb-true}
use Rattle.std.proofs.lemmas.List.Elements.{All-nil, All-cons}
use lib.Pointwise.{pointwise, bytes_decides}
use Rattle.lan_base.specs.Ranges.{IsCkn}
use Rattle.mkpdu_codec.specs.declared.announcement.Announcement.{Announcement}
use Rattle.mkpdu_codec.specs.declared.high_halves.HighHalves.{HighHalves}
use Rattle.mkpdu_codec.specs.declared.key_use.KeyUse.{KeyUse}
use Rattle.mkpdu_codec.specs.declared.key_use.Uses.{Uses}
use Rattle.mkpdu_codec.specs.declared.peer.Peer.{Peer}
use Rattle.mkpdu_codec.specs.Sets.{AreHighs, IsPeer, IsKey}
use Rattle.mkpdu_codec.specs.Sets.{IsGiven}
use Rattle.mkpdu_codec.specs.Written.{IsWritableKey}
use Rattle.group_safety.specs.worked.Group.{settings}
use Rattle.group_safety.proofs.example.Scene.{IsSayable}

abbrev is_peer : Peer → Bool
is_peer p = (length p.mi.0 == 12) && nat_lt p.mn (2 ^ 32)

abbrev is_use : KeyUse → Bool
is_use u =
    (length u.server.0 == 12) && (nat_lt u.number (2 ^ 32) && nat_lt u.lowest (2 ^ 32))

abbrev are_uses : Option Uses → Bool
are_uses None = true
are_uses (Some u) = is_use u.latest && is_use u.old

-- whether an announcement may be written, and its values are in their ranges, but for the key that
-- it gives
abbrev pub is_good : Announcement → Bool
is_good a =
    pointwise nat_eq a.source.0 (take 6 a.sci.0) && (pointwise nat_eq a.ckn settings.ckn
    && (nat_le (length a.live) 80 && (nat_le (length a.potential) 80
    && (are_uses a.uses && ((length a.sci.0 == 8) && ((length a.mi.0 == 12)
    && (nat_lt a.mn (2 ^ 32) && (list_all is_peer a.live
    && (list_all is_peer a.potential && is_none a.highs)))))))))

peers-are : (ps : List Peer) → list_all is_peer ps ≡ true → All IsPeer ps
peers-are [] all = All-nil IsPeer
peers-are (p ∷ ps) all =
    let x = and_parts (is_peer p) (list_all is_peer ps) all in
    let y = and_parts (length p.mi.0 == 12) (nat_lt p.mn (2 ^ 32)) x.0 in
    All-cons IsPeer p ps
    (record { mi = eqb-true (length p.mi.0) 12 y.0; mn = ltb-true p.mn (2 ^ 32) y.1 })
    (peers-are ps x.1)

key-is : (u : KeyUse) → is_use u ≡ true → IsKey u
key-is u e =
    let y = and_parts (length u.server.0 == 12) _ e in
    let z = and_parts (nat_lt u.number (2 ^ 32)) _ y.1 in
    record {
      server = eqb-true (length u.server.0) 12 y.0;
      number = ltb-true u.number (2 ^ 32) z.0;
      lowest = ltb-true u.lowest (2 ^ 32) z.1;
    }

pub sayable : (a : Announcement) → is_good a ≡ true
    → IfSome a.given (λ g. IsWritableKey g.key) × IfSome a.given IsGiven → IsSayable a
sayable a e given =
    let p1 = and_parts (pointwise nat_eq a.source.0 (take 6 a.sci.0)) _ e in
    let p2 = and_parts (pointwise nat_eq a.ckn settings.ckn) _ p1.1 in
    let p3 = and_parts (nat_le (length a.live) 80) _ p2.1 in
    let p4 = and_parts (nat_le (length a.potential) 80) _ p3.1 in
    let p5 = and_parts (are_uses a.uses) _ p4.1 in
    let p6 = and_parts (length a.sci.0 == 8) _ p5.1 in
    let p7 = and_parts (length a.mi.0 == 12) _ p6.1 in
    let p8 = and_parts (nat_lt a.mn (2 ^ 32)) _ p7.1 in
    let p9 = and_parts (list_all is_peer a.live) _ p8.1 in
    let p10 = and_parts (list_all is_peer a.potential) _ p9.1 in
    let silent : a.highs ≡ None = none a.highs p10.1 in
    let named : a.ckn ≡ settings.ckn = (bytes_decides a.ckn settings.ckn).0 p2.0 in
    let ckn : IsCkn settings.ckn = (omega arith, omega arith) in
    record {
      writable = record {
        source = (bytes_decides a.source.0 (take 6 a.sci.0)).0 p1.0;
        named = subst IsCkn (sym named) ckn;
        live = leb-true (length a.live) 80 p3.0;
        potential = leb-true (length a.potential) 80 p4.0;
        given = given.0;
        highs = silent;
      };
      typed = record {
        sci = eqb-true (length a.sci.0) 8 p6.0;
        mi = eqb-true (length a.mi.0) 12 p7.0;
        mn = ltb-true a.mn (2 ^ 32) p8.0;
        live = peers-are a.live p9.0;
        potential = peers-are a.potential p10.0;
        uses = used a.uses p5.0;
        given = given.1;
        highs = subst (λ (o : Option HighHalves). IfSome o AreHighs) (sym silent) tt;
      };
      named = named;
    }
  where
    none : (o : Option HighHalves) → is_none o ≡ true → o ≡ None
    none None e = refl
    none (Some h) e = absurd cc

    used : (o : Option Uses) → are_uses o ≡ true → IfSome o (λ u. IsKey u.latest × IsKey u.old)
    used None e = tt
    used (Some u) e =
        let x = and_parts (is_use u.latest) (is_use u.old) e in
        (key-is u.latest x.0, key-is u.old x.1)

-- What packets tell of changes of key, of members, and of who was ready for a key.
use Rattle.std.proofs.Common.{◌≡◌, ◌∙◌, ◌+◌, ℕ, Bool, true, false, cond, List, [], ◌∷◌, ◌++◌, map, Option, Some, None, refl, sym, ap, subst, arith}
use Rattle.std.specs.Prelude.{option_map}
use Rattle.audit_facts.specs.Noted.{IsNext, IsNextBy, fresh_frame, fresh_frames, noted_of, said_by, spoken_in, spoken_of}
use Rattle.key_ring.specs.Rings.{Ring}
use Rattle.known_keys.specs.declared.reason.Reason.{Reason}
use Rattle.known_keys.specs.Undecided.{undecided}
use Rattle.member_notes.specs.declared.mkpdu.RightMkpdu.{RightMkpdu}
use Rattle.member_notes.specs.Mkpdus.{novelty_in as mkpdu_novelty}
use Rattle.member_notes.specs.Spoken.{Spoken}
use Rattle.mkpdu_codec.specs.declared.announcement.Announcement.{Announcement}
use Rattle.packet_verdicts.specs.declared.kind.Kind.{Kind}
use Rattle.packet_verdicts.specs.declared.kind.Kind.TheVariants as kinds
use Rattle.packet_verdicts.specs.declared.kind.Mka.TheVariants as mkas
use Rattle.packet_verdicts.specs.declared.kind.Sec.TheVariants as secs
use Rattle.packet_verdicts.specs.Frames.{frame_of}
use Rattle.use_notes.specs.declared.frame.RightFrame.{RightFrame}
use Rattle.use_notes.specs.Frames.{AreInOrder, IsBehind, is_fresh, novelty_in}
use Rattle.capture_audit.specs.Before.{Unwrapped, entries, frames, kind_in, mkpdu_by, mkpdu_of, mkpdus, number_behind, right_key, right_under, with_some}
use Rattle.capture_audit.specs.Findings.{finding, finding_by, frame_finding, not_right}
use Rattle.capture_audit.specs.Telling.{noted}
use Rattle.capture_audit.proofs.Behind.{behind-one}

-- ---- right MKPDUs

abbrev mkpdu : Spoken → RightMkpdu
mkpdu s = s.mkpdu

none-spoken : (rights : List RightFrame) (o : Option RightFrame) (why : Option Reason) (nanos : ℕ) (said : Option Announcement)
    → spoken_in (frame_finding rights o why) nanos said ≡ []
none-spoken rights (Some frame) why nanos said = refl
none-spoken rights None (Some why) nanos said = refl
none-spoken rights None None nanos said = refl

spoken-more : (ring : Ring) (before : List Unwrapped) (u : Unwrapped) (k : Kind) (ss : List Spoken)
    → map mkpdu ss ≡ mkpdus ring before
    → map mkpdu (spoken_in (finding_by ring before u k) u.packet.head.nanos (said_by k) ++ ss)
    ≡ with_some (mkpdu_by (number_behind before) k) (mkpdus ring before)
spoken-more ring before u kinds.Foreign ss is = is
spoken-more ring before u kinds.Other ss is = is
spoken-more ring before u (kinds.Sec secs.Cut) ss is = is
spoken-more ring before u (kinds.Sec (secs.Malformed why)) ss is = is
spoken-more ring before u (kinds.Sec (secs.Protected tag check)) ss is =
    ap (λ (xs : List Spoken). map mkpdu (xs ++ ss))
    (none-spoken (frames ring before)
    (option_map (right_under (number_behind before) u.packet.head.nanos tag check) (right_key (entries ring before) tag (frame_of u.packet.octets)))
    (undecided (entries ring before) tag.sci tag.an u.packet.head.nanos) u.packet.head.nanos None)
    ∙ is
spoken-more ring before u (kinds.Mka mkas.Cut) ss is = is
spoken-more ring before u (kinds.Mka (mkas.Dropped refusal)) ss is = is
spoken-more ring before u (kinds.Mka (mkas.Unknown ckn sci gives)) ss is = is
spoken-more ring before u (kinds.Mka (mkas.Wrong gives)) ss is = is
spoken-more ring before u (kinds.Mka (mkas.Right group s)) ss is =
    ap (λ (ms : List RightMkpdu). mkpdu_of (number_behind before) group s ∷ ms) is

-- the right MKPDUs are those that speak
mkpdus-spoken : (ring : Ring) (before : List Unwrapped) → map mkpdu (spoken_of (noted ring before)) ≡ mkpdus ring before
mkpdus-spoken ring [] = refl
mkpdus-spoken ring (u ∷ before) =
    spoken-more ring before u (kind_in ring u) (spoken_of (noted ring before)) (mkpdus-spoken ring before)

-- ---- fresh frames

-- they stand behind each other, and a packet of this number behind them
abbrev AreBehind : ℕ → List RightFrame → Type 0
AreBehind n fs = AreInOrder fs × IsBehind n fs

none-fresh : (why : Option Reason) → fresh_frame (not_right why) ≡ []
none-fresh (Some why) = refl
none-fresh None = refl

module _ (n : ℕ) (fs : List RightFrame) (are : AreBehind n fs) where
  past-one : AreBehind (n + 1) fs
  past-one = (are.0, behind-one n fs are.1)

  one-more : (frame : RightFrame) → frame.packet ≡ n → (b : Bool) → AreBehind (n + 1) (cond b (frame ∷ []) [] ++ fs)
  one-more frame is true = ((subst (λ m. IsBehind m fs) (sym is) are.1, are.0), (omega (arith, is), past-one.1))
  one-more frame is false = past-one

  fresh-under : (rights : List RightFrame) (make : ℕ → RightFrame) → ((key : ℕ) → (make key).packet ≡ n)
      → (o : Option ℕ) (why : Option Reason)
      → AreBehind (n + 1) (fresh_frame (frame_finding rights (option_map make o) why) ++ fs)
  fresh-under rights make is None (Some why) = past-one
  fresh-under rights make is None None = past-one
  fresh-under rights make is (Some key) why = one-more (make key) (is key) (is_fresh (novelty_in rights (make key)))

fresh-more : (ring : Ring) (before : List Unwrapped) (u : Unwrapped) (k : Kind) (fs : List RightFrame)
    → AreBehind (number_behind before) fs
    → AreBehind (number_behind before + 1) (fresh_frame (finding_by ring before u k) ++ fs)
fresh-more ring before u (kinds.Sec (secs.Protected tag check)) fs are =
    fresh-under (number_behind before) fs are (frames ring before)
    (right_under (number_behind before) u.packet.head.nanos tag check) (λ key. refl)
    (right_key (entries ring before) tag (frame_of u.packet.octets))
    (undecided (entries ring before) tag.sci tag.an u.packet.head.nanos)
fresh-more ring before u (kinds.Sec secs.Cut) fs are = past-one (number_behind before) fs are
fresh-more ring before u (kinds.Sec (secs.Malformed why)) fs are = past-one (number_behind before) fs are
fresh-more ring before u kinds.Foreign fs are = past-one (number_behind before) fs are
fresh-more ring before u kinds.Other fs are = past-one (number_behind before) fs are
fresh-more ring before u (kinds.Mka mkas.Cut) fs are = past-one (number_behind before) fs are
fresh-more ring before u (kinds.Mka (mkas.Dropped refusal)) fs are = past-one (number_behind before) fs are
fresh-more ring before u (kinds.Mka (mkas.Unknown ckn sci gives)) fs are = past-one (number_behind before) fs are
fresh-more ring before u (kinds.Mka (mkas.Wrong gives)) fs are = past-one (number_behind before) fs are
fresh-more ring before u (kinds.Mka (mkas.Right group s)) fs are = past-one (number_behind before) fs are

fresh-behind : (ring : Ring) (before : List Unwrapped) → AreBehind (number_behind before) (fresh_frames (noted ring before))
fresh-behind ring [] = (tt, omega arith)
fresh-behind ring (u ∷ before) =
    let e : number_behind before + 1 ≡ number_behind (u ∷ before) = omega arith in
    subst (λ n. AreBehind n (fresh_frames (noted ring (u ∷ before)))) e
    (fresh-more ring before u (kind_in ring u) (fresh_frames (noted ring before)) (fresh-behind ring before))

-- ---- a packet more

module _ (ring : Ring) (before : List Unwrapped) (u : Unwrapped) where
  next-under : (make : ℕ → RightFrame) → ((key : ℕ) → (make key).packet ≡ number_behind before) → (o : Option ℕ)
      (why : Option Reason)
      → IsNextBy (noted ring before) (frame_finding (frames ring before) (option_map make o) why) u.packet.head.nanos None
  next-under make is None (Some why) = tt
  next-under make is None None = tt
  next-under make is (Some key) why =
      let are = fresh-behind ring before in
      λ fresh. (subst (λ m. IsBehind m (fresh_frames (noted ring before))) (sym (is key)) are.1, are.0)

  next-by : (k : Kind) → IsNextBy (noted ring before) (finding_by ring before u k) u.packet.head.nanos (said_by k)
  next-by (kinds.Sec (secs.Protected tag check)) =
      next-under (right_under (number_behind before) u.packet.head.nanos tag check) (λ key. refl)
      (right_key (entries ring before) tag (frame_of u.packet.octets))
      (undecided (entries ring before) tag.sci tag.an u.packet.head.nanos)
  next-by (kinds.Sec secs.Cut) = tt
  next-by (kinds.Sec (secs.Malformed why)) = tt
  next-by kinds.Foreign = tt
  next-by kinds.Other = tt
  next-by (kinds.Mka mkas.Cut) = tt
  next-by (kinds.Mka (mkas.Dropped refusal)) = tt
  next-by (kinds.Mka (mkas.Unknown ckn sci gives)) = tt
  next-by (kinds.Mka (mkas.Wrong gives)) = tt
  next-by (kinds.Mka (mkas.Right group s)) =
      ap (λ (ms : List RightMkpdu). mkpdu_novelty ms (mkpdu_of (number_behind before) group s)) (sym (mkpdus-spoken ring before))

  pub is-next : IsNext (noted ring before) (noted_of (finding ring before u) u.packet.head.nanos (kind_in ring u))
  is-next = next-by (kind_in ring u)

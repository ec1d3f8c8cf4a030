-- What holds of the packets of a run, and what an event leaves of it.
use Rattle.std.proofs.Common.{◌≡◌, ◌≤◌, ap, subst, List, [], ◌∷◌, length}
use Rattle.std.proofs.Common.{Bool, true, false, cond, arith}
use Rattle.std.specs.List.{filter}
use Rattle.lan_base.specs.declared.frame.UserFrame.{UserFrame}
use Rattle.known_keys.specs.declared.giving.Giving.TheVariants.{Key, Without}
use Rattle.known_keys.specs.History.{Entry, Gave, Set, Showed, Strange}
use Rattle.member_notes.specs.declared.mkpdu.RightMkpdu.{RightMkpdu}
use Rattle.use_notes.specs.declared.frame.RightFrame.{RightFrame}
use Rattle.use_notes.specs.declared.novelty.Novelty.TheVariants.{New}
use Rattle.use_notes.specs.Frames.{AreInOrder, novelty_in}
use Rattle.audit_facts.specs.Noted.{spoken_of}
use Rattle.member_notes.specs.Spoken.{Spoken}
use Rattle.capture_audit.specs.Before.{entries, frames, mkpdus, Unwrapped}
use Rattle.capture_audit.specs.Telling.{noted}
use Rattle.lan_core.specs.declared.settings.Settings.{Settings}
use Rattle.lan_core.specs.Run.{Happening, Run}
use Rattle.lan_core.specs.Ledgers.{air, emitted, Frame, Install, install_of, installs}
use Rattle.lan_core.specs.Legal.{IsStep}
use Rattle.lan_core.specs.Fresh.{IsFresh}
use Rattle.group_safety.proofs.Public.{In, in-later}
use Rattle.clean_audits.specs.Captured.{group_ring}
use Rattle.clean_audits.specs.Clean.{AreRightAndNew}
use Rattle.clean_audits.specs.Given.{GivesKey}
use Rattle.clean_audits.proofs.NewFrames.{IsUsed, used-later}
use Rattle.clean_audits.proofs.NoReturns.{giving-later, IsGiving, NoneReturns}
use Rattle.clean_audits.proofs.Sent.{IsSent, sent-later}
use Rattle.clean_audits.proofs.Told.{AreOurs, IsOurs, Tells}

-- each right frame is new behind those before it
abbrev pub AreNew : List RightFrame → Type 0
AreNew [] = Unit {0}
AreNew (e ∷ h) = (novelty_in h e ≡ New) × AreNew h

pub record Stands (settings : Settings) (r : Run) (packets : List Unwrapped) : Type 0 where
  pub ours : AreOurs r (entries (group_ring settings) packets)
  pub every : (frame : Frame) (i : Install) → In frame (air r) → GivesKey settings frame.octets i
      → Tells (entries (group_ring settings) packets) i
  pub used : (e : RightFrame) → In e (frames (group_ring settings) packets)
      → IsUsed settings r (entries (group_ring settings) packets) e
  pub sent : (m : RightMkpdu) → In m (mkpdus (group_ring settings) packets)
      → IsSent settings r m.mi m.mn
  pub spoke : (e : Spoken) → In e (spoken_of (noted (group_ring settings) packets)) → IsGiving settings r e
  pub returns : NoneReturns (spoken_of (noted (group_ring settings) packets))
  pub found : AreRightAndNew (group_ring settings) packets
  pub new : AreNew (frames (group_ring settings) packets)
  pub ordered : AreInOrder (frames (group_ring settings) packets)
  pub within : (e : RightFrame) → In e (frames (group_ring settings) packets)
      → e.packet ≤ length packets

-- ---- later

entry-later : (x : Happening) (r : Run) (entry : Entry) → IsOurs r entry → IsOurs (x ∷ r) entry
unfolding installs
entry-later x r (Gave n nanos group id an (Key offset sak)) (i, there, ids, ans, saks) =
    (i, in-later install_of x.facts (installs r) i there, ids, ans, saks)
entry-later x r (Gave n nanos group id an (Without why)) ours = elim ours [ ]
entry-later x r (Showed n nanos group id an) ours = tt
entry-later x r (Set sender an sak) ours = elim ours [ ]
entry-later x r (Strange sci) ours = elim ours [ ]

pub ours-later : (x : Happening) (r : Run) (told : List Entry) → AreOurs r told → AreOurs (x ∷ r) told
ours-later x r [] ours = tt
ours-later x r (entry ∷ told) ours = (entry-later x r entry ours.0, ours-later x r told ours.1)

-- the protected frames among those of the air
filter-more : (fs : List Frame) (frame : Frame)
    → length (filter (λ (f : Frame). f.sec) fs) ≤ length (filter (λ (f : Frame). f.sec) (frame ∷ fs))
filter-more fs frame = go frame.sec
  where
    rest : List Frame
    rest = filter (λ (f : Frame). f.sec) fs

    go : (b : Bool) → length rest ≤ length (cond b (frame ∷ rest) rest)
    go true = omega arith
    go false = omega arith

pub emitted-same : (q r : Run) → air q ≡ air r → length (emitted r) ≤ length (emitted q)
emitted-same q r same =
    let e : length (emitted q) ≡ length (emitted r) =
    ap (λ fs. length (filter (λ (f : Frame). f.sec) fs)) same in
    omega (arith, e)

pub emitted-more : (q r : Run) (frame : Frame) → air q ≡ frame ∷ air r
    → length (emitted r) ≤ length (emitted q)
emitted-more q r frame grown =
    let e : length (emitted q) ≡ length (filter (λ (f : Frame). f.sec) (frame ∷ air r)) =
    ap (λ fs. length (filter (λ (f : Frame). f.sec) fs)) grown in
    let more = filter-more (air r) frame in
    omega (arith, e, more)

-- an event that puts nothing on the air
pub stands-quiet : (settings : Settings) (users : List UserFrame) (x : Happening) (r : Run)
    (packets : List Unwrapped) → IsStep settings users x r → IsFresh (x ∷ r) → air (x ∷ r) ≡ air r
    → Stands settings r packets → Stands settings (x ∷ r) packets
stands-quiet settings users x r packets step fresh same s = record {
  ours = ours-later x r (entries (group_ring settings) packets) s.ours;
  every = λ frame i there gives. s.every frame i (subst (λ fs. In frame fs) same there) gives;
  used = λ e there. used-later settings x r (entries (group_ring settings) packets) e
      (emitted-same (x ∷ r) r same) (s.used e there);
  sent = λ m there. sent-later settings users x r m.mi m.mn step fresh (s.sent m there);
  spoke = λ e there. giving-later settings users x r e step fresh (s.spoke e there);
  returns = s.returns;
  found = s.found;
  new = s.new;
  ordered = s.ordered;
  within = s.within;
}

-- The packet of a claim's frame is a protected frame that is right under the key of the claim, and new.
use Rattle.std.proofs.Common.{◌≡◌, ◌<◌, ◌≤◌, ◌+◌, refl, sym, ap, ◌∙◌, subst, inl, inr, ℕ, List, [], ◌∷◌, ◌++◌, length}
use Rattle.std.proofs.Common.{None, Some, is_some, arith}
use Rattle.std.specs.Prelude.{option_map, slice_get}
use Rattle.std.specs.List.{filter}
use Rattle.lan_base.specs.declared.frame.UserFrame.{UserFrame}
use Rattle.gcm_frames.specs.declared.tag.Tag.{Tag}
use Rattle.gcm_frames.specs.Sealed.{check_octets}
use Rattle.key_ring.specs.Rings.{Ring}
use Rattle.known_keys.specs.History.{Entry, keys}
use Rattle.known_keys.specs.Numbered.{number_in}
use Rattle.packet_verdicts.specs.declared.kind.Kind.TheVariants as kinds
use Rattle.packet_verdicts.specs.declared.kind.Sec.TheVariants as secs
use Rattle.packet_verdicts.specs.Frames.{frame_of}
use Rattle.use_notes.specs.declared.frame.RightFrame.{RightFrame}
use Rattle.use_notes.specs.Frames.{AreInOrder, IsBehind, novelty_in}
use Rattle.use_notes.specs.declared.novelty.Novelty.TheVariants.{New}
use Rattle.capture_audit.specs.Before.{entries, entries_by, frame_by, frames, kind_in, mkpdu_by, mkpdus, number_behind, right_key, right_under, Unwrapped, with_some}
use Rattle.capture_audit.specs.Findings.{finding_by, frame_finding}
use Rattle.capture_audit.specs.Telling.{noted}
use Rattle.audit_facts.specs.Noted.{said_by, spoken_in, spoken_of}
use Rattle.known_keys.specs.Undecided.{undecided}
use Rattle.lan_core.specs.declared.event.Event.TheVariants as events
use Rattle.lan_core.specs.declared.fact.Fact.{Fact}
use Rattle.lan_core.specs.declared.settings.Settings.{Settings}
use Rattle.lan_core.specs.Run.{Happening, happened, Profile, Run, started, stations}
use Rattle.lan_core.specs.Ledgers.{air, emitted, Frame, Install, install_of, installs}
use Rattle.lan_core.specs.Claims.{claimed, claimed_by, frame_by as octets_by, user_at, Waiting, waiting}
use Rattle.lan_core.specs.Counted.{AreCounted}
use Rattle.lan_core.specs.Order.{IsSendable as IsSendableOf}
use Rattle.lan_core.specs.Types.{IsUserFrame}
use Rattle.group_safety.proofs.Public.{claimed-next, contains-in, get-more, In, in-contains, in-get, in-later, install_by, known}
use Rattle.clean_audits.specs.Captured.{group_ring, IsPacketOf}
use Rattle.clean_audits.specs.Clean.{IsRightAndNew, IsSealedOnce, Opens}
use Rattle.clean_audits.specs.Given.{GivesKey}
use Rattle.clean_audits.proofs.Claimed.{backed, IsBacked}
use Rattle.clean_audits.proofs.Gifts.{IsSound}
use Rattle.clean_audits.proofs.GivenKeys.{installed-given}
use Rattle.clean_audits.proofs.NewFrames.{IsUsed, new-frame, none-used, stations-next, used-later}
use Rattle.clean_audits.proofs.NoReturns.{giving-later, NoneReturns}
use Rattle.clean_audits.proofs.OnAir.{sealed}
use Rattle.clean_audits.proofs.RightFrames.{right-under-its-key}
use Rattle.clean_audits.proofs.RightMkpdus.{not-read, whole-frame}
use Rattle.clean_audits.proofs.SealedFrames.{AreProtected, fields-of, IsSendable, opened-of, sealed-packet, sec-of, tag_of, typed-of}
use Rattle.clean_audits.proofs.Sent.{sent-later}
use Rattle.clean_audits.proofs.Standing.{AreNew, emitted-more, ours-later, Stands}
use Rattle.clean_audits.proofs.Told.{AreOurs, Tells}

-- an emission and its packet
pub record IsSealing (settings : Settings) (users : List UserFrame) (f : List Fact) (r : Run)
    (w : Waiting) (p : Profile) (user : UserFrame) (u : Unwrapped) : Type 0 where
  pub sound : IsSound settings users (happened events.Emit f ∷ r)
  pub before : IsSound settings users r
  pub once : IsSealedOnce (happened events.Emit f ∷ r)
  pub counted : AreCounted (installs r)
  pub waits : waiting settings r ≡ Some w
  pub placed : slice_get (stations r) w.station ≡ Some p
  pub protects : user_at users w.user ≡ Some user
  pub grown : air (happened events.Emit f ∷ r) ≡ sealed r w p user ∷ air r
  pub packet : IsPacketOf (sealed r w p user) u.packet

-- a number behind those of all frames
is-behind : (n : ℕ) (h : List RightFrame) → 0 < n → ((e : RightFrame) → In e h → e.packet < n)
    → IsBehind n h
is-behind n [] some less = some
is-behind n (e ∷ h) some less = (less e (inl refl), is-behind n h some (λ g i. less g (inr i)))

-- a claim that waits can be sent
pub able-to-send : (settings : Settings) (users : List UserFrame) (r : Run) (w : Waiting) (p : Profile)
    (user : UserFrame)
    → IsSound settings users r → waiting settings r ≡ Some w → slice_get (stations r) w.station ≡ Some p
    → user_at users w.user ≡ Some user → IsSendable w p user
able-to-send settings users r w p user sound waits placed given =
    let there = in-get (claimed settings r) (length (emitted r)) w waits in
    let back = backed settings users r w sound.stepped sound.unforged there in
    let k = known settings users r sound.stepped sound.unforged in
    let sends : IsUserFrame user = subst IsSendableOf given (k.plain.sendable w there) in
    record {
      channel = k.plain.typed p (in-get (stations r) w.station p placed);
      secret = back.secret;
      frame = sends;
      first = back.first;
      last = back.last;
    }

installed-later : (x : Happening) (r : Run) (j : Install) → In j (installs r) → In j (installs (x ∷ r))
unfolding installs
installed-later x r j here = in-later install_of x.facts (installs r) j here

pub sealed-stands : AreProtected → (settings : Settings) (users : List UserFrame) (f : List Fact)
    (r : Run) (w : Waiting) (p : Profile) (user : UserFrame) (u : Unwrapped) (before : List Unwrapped)
    → IsSealing settings users f r w p user u → Stands settings r before
    → Stands settings (happened events.Emit f ∷ r) (u ∷ before)
sealed-stands laws settings users f r w p user u before t st = record {
  ours = subst (AreOurs q) (sym told-same) (ours-later x r told st.ours);
  every = λ frame i there gk. subst (λ es. Tells es i) (sym told-same)
      (tells frame i (subst (λ fs. In frame fs) t.grown there) gk);
  used = λ g there. subst (λ es. IsUsed settings q es g) (sym told-same)
      (uses g (subst (λ fs. In g fs) frames-grown there));
  sent = λ m there. sent-later settings users x r m.mi m.mn t.sound.stepped.0 t.sound.fresh
      (st.sent m (subst (λ ms. In m ms) mkpdus-same there));
  spoke = λ g there. giving-later settings users x r g t.sound.stepped.0 t.sound.fresh
      (st.spoke g (subst (λ es. In g es) spoken-same there));
  returns = subst NoneReturns (sym spoken-same) st.returns;
  found = (
    subst (λ k. IsRightAndNew (finding_by ring before u k)) (sym kind)
        (subst (λ o. IsRightAndNew (frame_finding (frames ring before) o
        (undecided told tag.sci tag.an u.packet.head.nanos))) (sym frame-is) is-new),
    st.found,
  );
  new = subst AreNew (sym frames-grown) (is-new, st.new);
  ordered = subst AreInOrder (sym frames-grown) (
    is-behind n (frames ring before) (omega arith) (λ g there.
        let less = st.within g there in omega (arith, less)),
    st.ordered,
  );
  within = λ g there. near g (subst (λ fs. In g fs) frames-grown there);
}
  where
    x : Happening
    x = happened events.Emit f

    q : Run
    q = x ∷ r

    ring : Ring
    ring = group_ring settings

    n : ℕ
    n = number_behind before

    told : List Entry
    told = entries ring before

    octets : List ℕ
    octets = octets_by w p user

    tag : Tag
    tag = tag_of w p user

    check : List ℕ
    check = check_octets tag octets

    there : In w (claimed settings r)
    there = in-get (claimed settings r) (length (emitted r)) w t.waits

    back : IsBacked r w
    back = backed settings users r w t.before.stepped t.before.unforged there

    able : IsSendable w p user
    able = able-to-send settings users r w p user t.before t.waits t.placed t.protects

    kind : kind_in ring u ≡ kinds.Sec (secs.Protected tag check)
    kind = sealed-packet laws ring.groups r w p user u.packet able t.packet

    told-same : entries ring (u ∷ before) ≡ told
    told-same = ap (λ k. entries_by n u.packet.head.nanos u.gift k ++ told) kind

    mkpdus-same : mkpdus ring (u ∷ before) ≡ mkpdus ring before
    mkpdus-same = ap (λ k. with_some (mkpdu_by n k) (mkpdus ring before)) kind

    i : Install
    i = install_by w.station w.key

    tells-i : Tells told i
    tells-i = let g = installed-given settings users r i t.before.stepped t.before.fresh
        t.before.unforged (in-contains (installs r) i back.install) in
        st.every g.frame i (contains-in (air r) g.frame g.there) g.gives

    opens-i : Opens i tag octets
    opens-i = ap is_some (opened-of laws w p user able)

    only : (j : Install) → In j (installs r) → Opens j tag octets → j.sak ≡ i.sak
    only j here opens =
        t.once (sealed r w p user) tag j i
        (in-contains (air q) (sealed r w p user)
        (subst (λ fs. In (sealed r w p user) fs) (sym t.grown) (inl refl))) refl
        (fields-of laws w p user able)
        (in-contains (installs q) j (installed-later x r j here))
        (in-contains (installs q) i (installed-later x r i back.install)) opens opens-i

    right : (m : ℕ) × (number_in (keys told) i.sak ≡ Some m) × (right_key told tag octets ≡ Some m)
    right = right-under-its-key r told tag octets i st.ours tells-i refl opens-i only

    e : RightFrame
    e = right_under n u.packet.head.nanos tag check right.0

    same-octets : frame_of u.packet.octets ≡ octets
    same-octets = ap frame_of t.packet.octets ∙ whole-frame octets (typed-of w p user able)

    frame-is : frame_by told n u.packet (kinds.Sec (secs.Protected tag check)) ≡ Some e
    frame-is = ap (λ o. option_map (right_under n u.packet.head.nanos tag check) (right_key told tag o))
        same-octets
        ∙ ap (option_map (right_under n u.packet.head.nanos tag check)) right.2

    frames-grown : frames ring (u ∷ before) ≡ e ∷ frames ring before
    frames-grown = ap (λ k. with_some (frame_by told n u.packet k) (frames ring before)) kind
        ∙ ap (λ o. with_some o (frames ring before)) frame-is

    spoken-same : spoken_of (noted ring (u ∷ before)) ≡ spoken_of (noted ring before)
    spoken-same =
        ap (λ k. spoken_in (finding_by ring before u k) u.packet.head.nanos (said_by k)
        ++ spoken_of (noted ring before)) kind
        ∙ ap (λ o. spoken_in (frame_finding (frames ring before) o (undecided told tag.sci tag.an u.packet.head.nanos))
        u.packet.head.nanos None ++ spoken_of (noted ring before)) frame-is

    is-new : novelty_in (frames ring before) e ≡ New
    is-new = new-frame (frames ring before) e (λ g here key sci pn.
        none-used settings users r told w p right.0 g t.before t.counted t.waits t.placed right.1
        (st.used g here) key sci pn)

    tells : (frame : Frame) (j : Install) → In frame (sealed r w p user ∷ air r)
        → GivesKey settings frame.octets j → Tells told j
    tells frame j (inl same) gk = absurd (no-gift j
        (subst (λ (v : Frame). GivesKey settings v.octets j) same gk))
      where
        no-gift : (j : Install) → GivesKey settings octets j → ⊥
        no-gift j gk = not-read octets (sec-of w p user able) gk.spelled gk.read
    tells frame j (inr older) gk = st.every frame j older gk

    more : length (emitted r) ≤ length (emitted q)
    more = emitted-more q r (sealed r w p user) t.grown

    one-more : length (emitted q) ≡ length (emitted r) + 1
    one-more =
        let e : length (emitted q) ≡ length (filter (λ (v : Frame). v.sec) (sealed r w p user ∷ air r)) =
        ap (λ fs. length (filter (λ (v : Frame). v.sec) fs)) t.grown in
        e ∙ omega arith

    uses : (g : RightFrame) → In g (e ∷ frames ring before) → IsUsed settings q told g
    uses g (inl same) = subst (IsUsed settings q told) (sym same) (record {
      place = length (emitted r);
      claim = w;
      profile = p;
      emitted_then = let m = one-more in omega (arith, m);
      claimed_there = subst (λ ws. slice_get ws (length (emitted r)) ≡ Some w)
          (sym (claimed-next settings x r))
          (get-more (claimed settings r) (claimed_by settings r events.Emit) (length (emitted r)) w t.waits);
      at = subst (λ ps. slice_get ps w.station ≡ Some p) (sym (stations-next x r))
          (get-more (stations r) (started events.Emit) w.station p t.placed);
      number = right.1;
      sci = refl;
      pn = refl;
    })
    uses g (inr older) = used-later settings x r told g more (st.used g older)

    near : (g : RightFrame) → In g (e ∷ frames ring before) → g.packet ≤ length (u ∷ before)
    near g (inl same) =
        let is : g.packet ≡ n = ap (λ (v : RightFrame). v.packet) same in omega (arith, is)
    near g (inr older) = let less = st.within g older in omega (arith, less)

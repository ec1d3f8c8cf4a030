-- The packet of what a station says at a tick is a right MKPDU that is new, and tells the key that it
-- gives.
use Rattle.std.proofs.Common.{◌≡◌, refl, sym, ap, ◌∙◌, subst, inl, inr, ℕ, List, [], ◌∷◌, ◌++◌, length}
use Rattle.std.proofs.Common.{Option, Some, None, Result, Ok, append_assoc, arith}
use Rattle.lan_base.specs.declared.address.Mi.{Mi}
use Rattle.lan_base.specs.declared.frame.UserFrame.{UserFrame}
use Rattle.aes_cmac.specs.Cmac.{cmac}
use Rattle.known_keys.specs.declared.giving.Giving.TheVariants.{Key}
use Rattle.known_keys.specs.History.{Entry, Gave}
use Rattle.member_notes.specs.declared.mkpdu.RightMkpdu.{RightMkpdu}
use Rattle.mkpdu_codec.specs.declared.announcement.Announcement.{Announcement}
use Rattle.mkpdu_codec.specs.declared.given.Given.{Given}
use Rattle.mkpdu_codec.specs.declared.spelled.Spelled.{Spelled}
use Rattle.mkpdu_codec.specs.Reading.{reading}
use Rattle.mkpdu_codec.specs.Written.{written}
use Rattle.mkpdu_codec.proofs.Public.{read_again}
use Rattle.packet_verdicts.specs.declared.given.Gift.{Gift}
use Rattle.packet_verdicts.specs.declared.given.Shown.{Shown}
use Rattle.packet_verdicts.specs.declared.kind.Kind.TheVariants as kinds
use Rattle.packet_verdicts.specs.declared.kind.Mka.TheVariants as mkas
use Rattle.packet_verdicts.specs.Given.{Gives, GivesBy, shown_keys}
use Rattle.packet_verdicts.specs.Groups.{GroupKeys}
use Rattle.use_notes.specs.declared.frame.RightFrame.{RightFrame}
use Rattle.use_notes.specs.Frames.{AreInOrder}
use Rattle.key_ring.specs.Rings.{Ring}
use Rattle.capture_audit.specs.Before.{entries, entries_by, frame_by, frames, gift_entries, giving_by, IsUnwrapped, kind_in, mkpdu_by, mkpdu_entries, mkpdu_of, mkpdus, number_behind, shown_entries, Unwrapped, UnwrapsBy, with_some}
use Rattle.capture_audit.specs.Findings.{finding_by}
use Rattle.capture_audit.specs.Telling.{noted}
use Rattle.audit_facts.specs.Noted.{said_by as said_in_kind, spoken_in, spoken_of}
use Rattle.member_notes.specs.Facts.{number_given, spoken as told_as}
use Rattle.member_notes.specs.Spoken.{Spoken}
use Rattle.lan_core.specs.declared.event.Event.TheVariants as events
use Rattle.lan_core.specs.declared.fact.Fact.{Fact}
use Rattle.lan_core.specs.declared.settings.Settings.{Settings}
use Rattle.lan_core.specs.Run.{Happening, happened, Run}
use Rattle.lan_core.specs.Ledgers.{air, Frame, Install, installs}
use Rattle.lan_core.specs.Lives.{Life, sak_in}
use Rattle.mka_station.specs.Views.{view}
use Rattle.mka_station.specs.Tick.{ticked_past}
use Rattle.group_safety.proofs.Public.{In, in-right, install_by, said-now, some-same, tick_lowest}
use Rattle.clean_audits.specs.Captured.{group_ring, IsGiftOf, IsPacketOf}
use Rattle.clean_audits.specs.Clean.{IsRightAndNew}
use Rattle.clean_audits.specs.Given.{GivesKey, group_kek}
use Rattle.clean_audits.proofs.Gifts.{gives-latest, IsLatestGift, OneWrap}
use Rattle.clean_audits.proofs.GivenKeys.{IsTick, said_by, seen_by, spells-said}
use Rattle.clean_audits.proofs.MkpdusRight.{spoken-kind}
use Rattle.clean_audits.proofs.NewFrames.{IsUsed, used-later, used-told}
use Rattle.clean_audits.proofs.NoReturns.{given-most, given-now, giving-later, IsGiving, keys_made, NoneReturns, not-back}
use Rattle.clean_audits.proofs.OnAir.{spoken}
use Rattle.clean_audits.proofs.RightMkpdus.{spelled_of}
use Rattle.clean_audits.proofs.Rising.{IsBelow}
use Rattle.clean_audits.proofs.Sent.{IsSent, new-mkpdu, sent-below, sent-later, sent-now}
use Rattle.clean_audits.proofs.Standing.{AreNew, emitted-more, ours-later, Stands}
use Rattle.clean_audits.proofs.Told.{AreOurs, IsOurs, Tells}

-- ---- lists of entries

pub ours-both : (r : Run) (a b : List Entry) → AreOurs r a → AreOurs r b → AreOurs r (a ++ b)
ours-both r [] b x y = y
ours-both r (entry ∷ a) b x y = (x.0, ours-both r a b x.1 y)

shown-ours : (r : Run) (n nanos group : ℕ) (o : Option Shown) → AreOurs r (shown_entries n nanos group o)
shown-ours r n nanos group None = tt
shown-ours r n nanos group (Some shown) = (tt, tt)

tells-behind : (a told : List Entry) (i : Install) → Tells told i → Tells (a ++ told) i
tells-behind a told i t = record {
  packet = t.packet;
  nanos = t.nanos;
  offset = t.offset;
  there = in-right a told _ t.there;
  opens = t.opens;
}

used-behind : (settings : Settings) (r : Run) (a told : List Entry) (e : RightFrame) → IsUsed settings r told e
    → IsUsed settings r (a ++ told) e
used-behind settings r [] told e u = u
used-behind settings r (entry ∷ a) told e u =
    used-told settings r (a ++ told) entry e (used-behind settings r a told e u)

-- ---- a tick that says something, and its packet

pub record IsSpoken (settings : Settings) (users : List UserFrame) (s next : ℕ) (f : List Fact) (r : Run)
    (l : Life) (a : Announcement) (u : Unwrapped) : Type 0 where
  pub tick : IsTick settings users s next f r l
  pub said : said_by settings s next f r l ≡ Some a
  pub grown : air (happened (events.Tick s next) f ∷ r) ≡ spoken r s l a ∷ air r
  pub packet : IsPacketOf (spoken r s l a) u.packet
  pub unwrapped : IsUnwrapped (group_ring settings) u

-- an announcement that gives something has a gift
some-gift : (kek : List ℕ) (mi : Mi) (given : Option Given) (g : Gift) (o : Option Gift)
    → GivesBy kek mi given (Some g) → GivesBy kek mi given o → (h : Gift) × (o ≡ Some h)
some-gift kek mi None g o never other = elim never [ ]
some-gift kek mi (Some given) g None is never = elim never [ ]
some-gift kek mi (Some given) g (Some h) is other = (h, refl)

ok-one : {A E : Type 0} {a b : A} (x : Result A E) → x ≡ Ok a → x ≡ Ok b → a ≡ b
ok-one x e f = cc (e, f)

-- the key of a gift tells
gift-tells : (n nanos : ℕ) (i : Install) (g : Gift) (told : List Entry) → IsGiftOf i g
    → Tells (gift_entries n nanos 1 (Some g) ++ told) i
gift-tells n nanos i g told is = record {
  packet = n;
  nanos = nanos;
  offset = g.offset;
  there = inl (λ t. Gave n nanos 1 (ids t) (ans t) (what t));
  opens = is.opens;
}
  where
    ids : i.id ≡ g.id
    ids = sym is.id

    ans : i.an ≡ g.an
    ans = sym is.an

    what : Key g.offset i.sak ≡ giving_by g.offset g.sak
    what = ap (giving_by g.offset) (sym is.sak)

gift-ours : (q : Run) (n nanos : ℕ) (i : Install) (g : Gift) → In i (installs q) → IsGiftOf i g
    → AreOurs q (gift_entries n nanos 1 (Some g))
gift-ours q n nanos i g there is = (
  subst (λ o. IsOurs q (Gave n nanos 1 g.id g.an (giving_by g.offset o))) (sym is.sak)
      (i, there, sym is.id, sym is.an, refl),
  tt,
)

-- an install with the same key
same-gift : (i j : Install) (g : Gift) → IsGiftOf i g → j.id ≡ i.id → j.an ≡ i.an → j.sak ≡ i.sak
    → IsGiftOf j g
same-gift i j g is id an sak = record {
  id = is.id ∙ sym id;
  an = is.an ∙ sym an;
  sak = is.sak ∙ ap Ok (sym sak);
  opens = is.opens;
}

-- what the packet tells stands before what was told
abbrev new_entries : ℕ → Announcement → Unwrapped → List Entry
new_entries n a u = mkpdu_entries n u.packet.head.nanos 1 (shown_keys a.uses) u.gift

behind-shown : (n : ℕ) (a : Announcement) (u : Unwrapped) (told : List Entry) (i : Install)
    → Tells (gift_entries n u.packet.head.nanos 1 u.gift ++ told) i
    → Tells (new_entries n a u ++ told) i
behind-shown n a u told i t =
    subst (λ es. Tells es i) (sym (append_assoc olds (latests ++ gifts) told
    ∙ ap (λ es. olds ++ es) (append_assoc latests gifts told)))
    (tells-behind olds (latests ++ (gifts ++ told)) i (tells-behind latests (gifts ++ told) i t))
  where
    nanos : ℕ
    nanos = u.packet.head.nanos

    olds : List Entry
    olds = shown_entries n nanos 1 (shown_keys a.uses).old

    latests : List Entry
    latests = shown_entries n nanos 1 (shown_keys a.uses).latest

    gifts : List Entry
    gifts = gift_entries n nanos 1 u.gift

pub spoken-stands : OneWrap → (settings : Settings) (users : List UserFrame) (s next : ℕ) (f : List Fact)
    (r : Run) (l : Life) (a : Announcement) (u : Unwrapped) (before : List Unwrapped)
    → IsSpoken settings users s next f r l a u → Stands settings r before
    → Stands settings (happened (events.Tick s next) f ∷ r) (u ∷ before)
spoken-stands one settings users s next f r l a u before t st = record {
  ours = subst (AreOurs q) (sym grown) (ours-both q new told (ours-new u.gift gives)
      (ours-later x r told st.ours));
  every = λ frame i there gk. subst (λ es. Tells es i) (sym grown)
      (tells frame i (subst (λ fs. In frame fs) t.grown there) gk);
  used = λ e there. subst (λ es. IsUsed settings q es e) (sym grown)
      (used-behind settings q new told e (used-later settings x r told e
      (emitted-more q r (spoken r s l a) t.grown)
      (st.used e (subst (λ fs. In e fs) frames-same there))));
  sent = λ m there. sends m (subst (λ ms. In m ms) mkpdus-grown there);
  spoke = λ e there. speaks e (subst (λ es. In e es) spoken-grown there);
  returns = subst NoneReturns (sym spoken-grown) (
    not-back (spoken_of (noted ring before)) entry (λ d i same some.
        given-most settings users s next f r l a t.tick t.said (number_given d.said.given) mi
        (subst (λ w. IsBelow keys_made settings r w (number_given d.said.given)) same (st.spoke d i)) some),
    st.returns,
  );
  found = (
    subst (λ k. IsRightAndNew (finding_by ring before u k)) (sym kind)
        (new-mkpdu (mkpdus ring before) (mkpdu_of n 1 sp) (λ m there same.
        sent-below settings s next f r l a m.mn t.tick.living t.said mi
        (subst (λ w. IsSent settings r w m.mn) same (st.sent m there)))),
    st.found,
  );
  new = subst AreNew (sym frames-same) st.new;
  ordered = subst AreInOrder (sym frames-same) st.ordered;
  within = λ e there. let less = st.within e (subst (λ fs. In e fs) frames-same there) in
      omega (arith, less);
}
  where
    x : Happening
    x = happened (events.Tick s next) f

    q : Run
    q = x ∷ r

    ring : Ring
    ring = group_ring settings

    n : ℕ
    n = number_behind before

    told : List Entry
    told = entries ring before

    new : List Entry
    new = new_entries n a u

    sp : Spelled
    sp = spelled_of l.member.setup.ick a

    kind : kind_in ring u ≡ kinds.Mka (mkas.Right 1 sp)
    kind = spoken-kind settings users s next f r l a u.packet t.tick t.said t.packet

    grown : entries ring (u ∷ before) ≡ new ++ told
    grown = ap (λ k. entries_by n u.packet.head.nanos u.gift k ++ told) kind

    frames-same : frames ring (u ∷ before) ≡ frames ring before
    frames-same = ap (λ k. with_some (frame_by told n u.packet k) (frames ring before)) kind

    mkpdus-grown : mkpdus ring (u ∷ before) ≡ mkpdu_of n 1 sp ∷ mkpdus ring before
    mkpdus-grown = ap (λ k. with_some (mkpdu_by n k) (mkpdus ring before)) kind

    -- what the MKPDU says, as its member's facts have it
    entry : Spoken
    entry = told_as (mkpdu_of n 1 sp) u.packet.head.nanos a

    spoken-grown : spoken_of (noted ring (u ∷ before)) ≡ entry ∷ spoken_of (noted ring before)
    spoken-grown =
        ap (λ k. spoken_in (finding_by ring before u k) u.packet.head.nanos (said_in_kind k)
        ++ spoken_of (noted ring before)) kind

    mi : a.mi ≡ l.member.mi
    mi = let seen = seen_by settings s next r l in
        let past = ticked_past l.member seen (sak_in f) l.past in
        sym (ap (λ (w : Announcement). w.mi)
        (said-now l.member (tick_lowest l.member seen l.past) past (view l.member past) a t.said))

    gives : Gives (group_kek settings) a u.gift
    gives = let w = subst (UnwrapsBy ring.groups u.gift) kind t.unwrapped in
        subst (λ (k : GroupKeys). Gives k.kek a u.gift) (sym (some-same w.1)) w.2

    latest-of : (g : Gift) → Gives (group_kek settings) a (Some g)
        → IsLatestGift settings s next f r l g
    latest-of g is = gives-latest one settings users s next f r l a g t.tick t.said is

    gifts-ours : (o : Option Gift) → Gives (group_kek settings) a o
        → AreOurs q (gift_entries n u.packet.head.nanos 1 o)
    gifts-ours None is = tt
    gifts-ours (Some g) is =
        let h = latest-of g is in
        gift-ours q n u.packet.head.nanos (install_by s h.key) g h.there h.is

    ours-new : (o : Option Gift) → Gives (group_kek settings) a o
        → AreOurs q (mkpdu_entries n u.packet.head.nanos 1 (shown_keys a.uses) o)
    ours-new o is =
        ours-both q (shown_entries n u.packet.head.nanos 1 (shown_keys a.uses).old)
        (shown_entries n u.packet.head.nanos 1 (shown_keys a.uses).latest
        ++ gift_entries n u.packet.head.nanos 1 o)
        (shown-ours q n u.packet.head.nanos 1 (shown_keys a.uses).old)
        (ours-both q (shown_entries n u.packet.head.nanos 1 (shown_keys a.uses).latest)
        (gift_entries n u.packet.head.nanos 1 o)
        (shown-ours q n u.packet.head.nanos 1 (shown_keys a.uses).latest) (gifts-ours o is))

    -- the frame that is said gives a key: this is the gift of its packet
    tells-new : (i : Install) → GivesKey settings (spoken r s l a).octets i → Tells (new ++ told) i
    tells-new i gk =
        let again : reading (spoken r s l a).octets ≡ Ok sp =
        read_again (spoken r s l a).octets a (length (written a))
        (cmac l.member.setup.ick (written a)) (spells-said settings users s next f r l a t.tick t.said) in
        let same : gk.spelled ≡ sp = ok-one (reading (spoken r s l a).octets) gk.read again in
        let is : Gives (group_kek settings) a (Some gk.gift) =
        subst (λ (w : Spelled). Gives (group_kek settings) w.announcement (Some gk.gift)) same gk.gives in
        let g = some-gift (group_kek settings) a.mi a.given gk.gift u.gift is gives in
        let first = latest-of gk.gift is in
        let second = latest-of g.0 (subst (λ o. Gives (group_kek settings) a o) g.1 gives) in
        let keys : first.key ≡ second.key = some-same (sym first.last ∙ second.last) in
        let ids = sym gk.id ∙ first.is.id ∙ ap (λ k. (install_by s k).id) keys in
        let ans = sym gk.an ∙ first.is.an ∙ ap (λ k. (install_by s k).an) keys in
        let saks : i.sak ≡ first.key.sak = ok-one gk.gift.sak gk.sak first.is.sak in
        let here = same-gift (install_by s second.key) i g.0 second.is ids ans
        (saks ∙ ap (λ k. (install_by s k).sak) keys) in
        behind-shown n a u told i
        (subst (λ o. Tells (gift_entries n u.packet.head.nanos 1 o ++ told) i) (sym g.1)
        (gift-tells n u.packet.head.nanos i g.0 told here))

    tells : (frame : Frame) (i : Install) → In frame (spoken r s l a ∷ air r)
        → GivesKey settings frame.octets i → Tells (new ++ told) i
    tells frame i (inl same) gk =
        tells-new i (subst (λ (w : Frame). GivesKey settings w.octets i) same gk)
    tells frame i (inr older) gk = tells-behind new told i (st.every frame i older gk)

    speaks : (e : Spoken) → In e (entry ∷ spoken_of (noted ring before)) → IsGiving settings q e
    speaks e (inl same) =
        subst (λ (w : Spoken). IsGiving settings q w) (sym same)
        (given-now settings users s next f r l a t.tick t.said mi)
    speaks e (inr older) =
        giving-later settings users x r e t.tick.stepped.0 t.tick.fresh (st.spoke e older)

    sends : (m : RightMkpdu) → In m (mkpdu_of n 1 sp ∷ mkpdus ring before) → IsSent settings q m.mi m.mn
    sends m (inl same) =
        subst (λ (w : RightMkpdu). IsSent settings q w.mi w.mn) (sym same)
        (sent-now settings users s next f r l a t.tick t.said mi)
    sends m (inr older) =
        sent-later settings users x r m.mi m.mn t.tick.stepped.0 t.tick.fresh (st.sent m older)

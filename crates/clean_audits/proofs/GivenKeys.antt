-- Each installed key was given on the air, and each claim is under such a key.
use Rattle.std.proofs.Common.{◌≡◌, ◌≤◌, ◌+◌, refl, sym, ap, ◌∙◌, subst, inl, inr, ℕ, List, [], ◌∷◌}
use Rattle.std.proofs.Common.{◌++◌, length, Bool, true, false, cond, Option, Some, None, Ok, arith}
use Rattle.std.specs.Prelude.{◌==◌, Contains, option_map}
use Rattle.lan_base.specs.Ranges.{most_ticks}
use Rattle.lan_base.specs.declared.address.Mi.{Mi}
use Rattle.lan_base.specs.declared.association_number.AssociationNumber.{AssociationNumber}
use Rattle.lan_base.specs.declared.frame.UserFrame.{UserFrame}
use Rattle.aes_block.specs.declared.secret.Secret.{Secret}
use Rattle.aes_block.specs.declared.secret.Secret.TheVariants.{S128, S256}
use Rattle.aes_cmac.specs.Cmac.{cmac}
use Rattle.known_keys.specs.Known.{is_open}
use Rattle.mkpdu_codec.specs.declared.announcement.Announcement.{Announcement}
use Rattle.mkpdu_codec.specs.declared.offset.ConfidentialityOffset.TheVariants as offsets
use Rattle.mkpdu_codec.specs.Frames.{Spells}
use Rattle.mkpdu_codec.specs.Written.{written}
use Rattle.mkpdu_codec.proofs.Public.{read_again}
use Rattle.packet_verdicts.specs.declared.given.Gift.{Gift}
use Rattle.packet_verdicts.specs.Given.{Gives, GivesBy, IsGift, IsSak}
use Rattle.sak_exchange.specs.declared.due.Seen.{Seen}
use Rattle.sak_exchange.specs.declared.held_key.Key.{Key}
use Rattle.sak_exchange.specs.Held.{transmitting}
use Rattle.sak_exchange.specs.Reports.{reports}
use Rattle.mka_station.specs.Lives.{Member, Entry, Setup, ticked}
use Rattle.mka_station.specs.Views.{view}
use Rattle.mka_station.specs.Announcing.{frame_of, given_as, offset, wrapped_key}
use Rattle.mka_station.specs.Tick.{says_at}
use Rattle.lan_core.specs.declared.event.Event.{Event}
use Rattle.lan_core.specs.declared.event.Event.TheVariants as events
use Rattle.lan_core.specs.declared.fact.Fact.{Fact}
use Rattle.lan_core.specs.declared.fact.Fact.TheVariants as facts
use Rattle.lan_core.specs.declared.fact.Lack.{Lack}
use Rattle.lan_core.specs.declared.settings.Settings.{Settings}
use Rattle.lan_core.specs.Run.{Run, Happening, happened}
use Rattle.lan_core.specs.Ledgers.{Frame, air, framed, Install, installs, next_frame}
use Rattle.lan_core.specs.Lives.{Life, life, keys_in, seen_at, sak_in, transmitting_at}
use Rattle.lan_core.specs.Claims.{a_claim}
use Rattle.lan_core.specs.Expected.{claim_fact, expected, lack, number_fact, tick_facts}
use Rattle.lan_core.specs.Fresh.{IsFresh, IsUnforged}
use Rattle.lan_core.specs.Legal.{IsStep, IsStepped}
use Rattle.lan_core.specs.Order.{ticks}
use Rattle.lan_core.specs.Types.{IsSecret}
use Rattle.lan_core.proofs.Public.{front-fresh, front-stepped, front-unforged}
use Rattle.group_safety.specs.Once.{makes, shown_made}
use Rattle.group_safety.proofs.Public.{In, contains-in, in-contains, in-either}
use Rattle.group_safety.proofs.Public.{known, run-drawn, IsKnown, IsLiving, install_by, speaker-of}
use Rattle.group_safety.proofs.Public.{IsReady, said-spells, tick-sound, tick_key, seen-small}
use Rattle.group_safety.proofs.Public.{drawn-secret, IsGist, installed_at, sent_frame, air-next}
use Rattle.group_safety.proofs.Public.{in-later, makes-next, makes-same, mapped, chained}
use Rattle.group_safety.proofs.Public.{IsMade, made-is}
use Rattle.group_safety.proofs.Public.{transmitting-installed}
use Rattle.clean_audits.specs.Given.{group_kek, GivesKey, HasGivenKey, IsGiven}
use Rattle.clean_audits.proofs.Announced.{IsGivenBy, IsNewIn, IsUnreported, made-said}
use Rattle.clean_audits.proofs.NewKeys.{new-id}
use Rattle.clean_audits.proofs.Reported.{live-uses, said-reports, tick-installs}

-- ---- a tick of a run

-- a tick, with all that is known of it
pub record IsTick (settings : Settings) (users : List UserFrame) (s next : ℕ) (f : List Fact)
    (r : Run) (l : Life) : Type 0 where
  pub stepped : IsStepped settings users (happened (events.Tick s next) f ∷ r)
  pub fresh : IsFresh (happened (events.Tick s next) f ∷ r)
  pub unforged : IsUnforged settings (happened (events.Tick s next) f ∷ r)
  pub living : life settings s r ≡ Some l

-- what it shows
abbrev pub seen_by : Settings → ℕ → ℕ → Run → Life → Seen
seen_by settings s next r l = seen_at settings s r l next

-- the key that it makes
abbrev pub key_by : Settings → ℕ → ℕ → List Fact → Run → Life → Option Key
key_by settings s next f r l = tick_key l.member (seen_by settings s next r l) (sak_in f) l.past

-- what it says
abbrev pub said_by : Settings → ℕ → ℕ → List Fact → Run → Life → Option Announcement
said_by settings s next f r l = says_at l.member (seen_by settings s next r l) (sak_in f) l.past

-- its facts add to the ledgers the key that it makes and the frame of what it says
abbrev pub GistIs : Settings → ℕ → ℕ → List Fact → Run → Life → Option Key → Option Announcement → Type 0
GistIs settings s next f r l key said =
    IsGist f [] (installed_at s key)
    (sent_frame (next_frame r) s (option_map (frame_of l.member.setup) said)) []

pub gist-of : (settings : Settings) (users : List UserFrame) (s next : ℕ) (f : List Fact) (r : Run)
    (l : Life) → IsTick settings users s next f r l
    → GistIs settings s next f r l (key_by settings s next f r l) (said_by settings s next f r l)
gist-of settings users s next f r l t =
    tick-installs settings users s next f r l t.stepped.0 t.living

-- the SAK of a key that it makes has its octets
pub secret-of : (settings : Settings) (users : List UserFrame) (s next : ℕ) (f : List Fact) (r : Run)
    (l : Life) (key : Key) → IsTick settings users s next f r l
    → key_by settings s next f r l ≡ Some key → IsSecret (sak_in f)
secret-of settings users s next f r l key t e =
    drawn-secret settings f s (key_by settings s next f r l) (gist-of settings users s next f r l t)
    t.stepped.0.in_order.1.2 key e

-- its frame spells what it says
pub spells-said : (settings : Settings) (users : List UserFrame) (s next : ℕ) (f : List Fact) (r : Run)
    (l : Life) (a : Announcement) → IsTick settings users s next f r l
    → said_by settings s next f r l ≡ Some a
    → Spells (frame_of l.member.setup a) a (length (written a)) (cmac l.member.setup.ick (written a))
spells-said settings users s next f r l a t e =
    said-spells m seen (sak_in f) p (ticks r) a ready
    (speaker-of settings users r s l t.stepped.0.setting k.plain v) (seen-small settings s r l next)
    (tick-sound m seen (sak_in f) p (ticks r) ready (λ key made. secret-of settings users s next f r l key t made)) e
  where
    m : Member
    m = l.member

    p : List Entry
    p = l.past

    seen : Seen
    seen = seen_at settings s r l next

    k : IsKnown settings users r
    k = known settings users r t.stepped.1 t.unforged.1

    v : IsLiving settings r s l
    v = k.living s l t.living

    few : 1 + ticks r ≤ most_ticks
    few = t.stepped.0.within.ticks

    ready : IsReady m p (ticks r)
    ready = record { mi = v.mi; keys = v.keys; few = omega (arith, few) }

-- ---- a made key is given

sak-is : (kek : List ℕ) (sak : Secret) → IsSecret sak → IsSak kek (wrapped_key kek sak) (Ok sak)
sak-is kek (S128 octets) is = (record { count = is.0; octets = is.1 }, refl)
sak-is kek (S256 octets) is = (record { count = is.0; octets = is.1 }, refl)

pub gift-is : (kek : List ℕ) (mi : Mi) (key : Key) → IsSecret key.sak
    → IsGift kek mi (given_as kek key) (record {
      id = record { server = mi; number = key.id.number };
      an = key.an;
      offset = offset key;
      sak = Ok key.sak;
    })
gift-is kek mi key is = record {
  named = refl;
  under = refl;
  protects = refl;
  hides = sak-is kek key.sak is;
}

pub opens-by : (conf : Bool) → is_open (cond conf offsets.Octets0 offsets.None) ≡ true
opens-by true = refl
opens-by false = refl

-- what a station that makes a key knows of it
record IsMadeNew (settings : Settings) (r : Run) (s : ℕ) (m : Member) (p : List Entry) (key : Key) :
    Type 0 where
  unreported : IsUnreported m p key
  new : IsNewIn m p key

made-new : (settings : Settings) (users : List UserFrame) (s next : ℕ) (f : List Fact) (r : Run)
    (l : Life) (key : Key) → IsTick settings users s next f r l
    → key_by settings s next f r l ≡ Some key → IsMadeNew settings r s l.member l.past key
made-new settings users s next f r l key t e = record {
  unreported = λ w i reported.
      let a = live-uses l.member (ticked ∷ l.past) w i in
      let has = said-reports settings users r a.0 key.id t.stepped.1 t.unforged.1
      (v.origins a.0 a.1) (ap (reports key.id) (sym a.2) ∙ reported) in
      other has.0 has.1 has.2;
  new = λ n i same. other (install_by s n) (v.backed n i) same;
}
  where
    v : IsLiving settings r s l
    v = (known settings users r t.stepped.1 t.unforged.1).living s l t.living

    other : (i : Install) → In i (installs r) → i.id ≡ key.id → ⊥
    other i there same =
        new-id settings users s next f r l key i t.stepped t.fresh t.unforged t.living e there same

-- the announcement of a made key gives it
gives-key : (settings : Settings) (users : List UserFrame) (s next : ℕ) (f : List Fact) (r : Run)
    (l : Life) (key : Key) (t : IsTick settings users s next f r l)
    → key_by settings s next f r l ≡ Some key
    → (by : IsGivenBy l.member (seen_by settings s next r l) (sak_in f) l.past key)
    → GivesKey settings (frame_of l.member.setup by.says) (install_by s key)
gives-key settings users s next f r l key t e by = record {
  spelled = record {
    announcement = by.says;
    covered = length (written by.says);
    check = cmac l.member.setup.ick (written by.says);
  };
  read = read_again (frame_of l.member.setup by.says) by.says (length (written by.says))
      (cmac l.member.setup.ick (written by.says))
      (spells-said settings users s next f r l by.says t by.said);
  gift = gift;
  gives = subst (λ w. Gives w by.says (Some gift)) kek
      (subst (λ g. GivesBy l.member.setup.kek by.says.mi g (Some gift)) (sym by.gift)
      (gift-is l.member.setup.kek by.says.mi key secret));
  id = λ i. record { server = server i; number = key.id.number };
  an = refl;
  sak = refl;
  opens = opens-by key.conf;
}
  where
    gift : Gift
    gift = record {
      id = record { server = by.says.mi; number = key.id.number };
      an = key.an;
      offset = offset key;
      sak = Ok key.sak;
    }

    v : IsLiving settings r s l
    v = (known settings users r t.stepped.1 t.unforged.1).living s l t.living

    kek : l.member.setup.kek ≡ group_kek settings
    kek = ap (λ (w : Setup). w.kek) v.setup

    is : IsMade l.member.base l.member.mi (view l.member (ticked ∷ l.past)).keys (sak_in f) key
    is = made-is l.member (view l.member (ticked ∷ l.past)) (seen_by settings s next r l) (sak_in f)
        key e

    server : by.says.mi ≡ key.id.server
    server = by.mi ∙ sym is.server

    secret : IsSecret key.sak
    secret = subst IsSecret (sym is.same_sak) (secret-of settings users s next f r l key t e)

-- what a later event leaves
pub given-later : (settings : Settings) (x : Happening) (r : Run) (i : Install)
    → IsGiven settings r i → IsGiven settings (x ∷ r) i
unfolding air
given-later settings x r i g = record {
  frame = g.frame;
  there = in-contains (air (x ∷ r)) g.frame
      (in-later framed x.facts (air r) g.frame (contains-in (air r) g.frame g.there));
  gives = g.gives;
}

-- a key is given where the same SAK is given under the same identifier and association number
given-as-made : (settings : Settings) (r : Run) (made i : Install) → IsGiven settings r made
    → made.id ≡ i.id → made.an ≡ i.an → made.sak ≡ i.sak → IsGiven settings r i
given-as-made settings r made i g id an sak = record {
  frame = g.frame;
  there = g.there;
  gives = record {
    spelled = g.gives.spelled;
    read = g.gives.read;
    gift = g.gives.gift;
    gives = g.gives.gives;
    id = g.gives.id ∙ id;
    an = g.gives.an ∙ an;
    sak = g.gives.sak ∙ ap Ok sak;
    opens = g.gives.opens;
  };
}

made-given : (settings : Settings) (users : List UserFrame) (s next : ℕ) (f : List Fact) (r : Run)
    (l : Life) (key : Key) → IsTick settings users s next f r l
    → key_by settings s next f r l ≡ Some key
    → IsGiven settings (happened (events.Tick s next) f ∷ r) (install_by s key)
made-given settings users s next f r l key t e =
    let new = made-new settings users s next f r l key t e in
    let by = made-said l.member (seen_by settings s next r l) (sak_in f) l.past key e new.unreported
    new.new in
    let x = happened (events.Tick s next) f in
    let octets = frame_of l.member.setup by.says in
    let frame : Frame =
    record { number = next_frame r; station = s; sec = false; octets = octets } in
    let sent : air (x ∷ r) ≡ frame ∷ air r = air-next x r
    (subst (λ w. GistIs settings s next f r l (key_by settings s next f r l) w) by.said
    (gist-of settings users s next f r l t)) in
    record {
      frame = frame;
      there = in-contains (air (x ∷ r)) frame (subst (λ w. In frame w) (sym sent) (inl refl));
      gives = gives-key settings users s next f r l key t e by;
    }

-- ---- each made key, and each installed one

tick-makes : (settings : Settings) (users : List UserFrame) (s next : ℕ) (f : List Fact) (r : Run)
    (l : Life) (i : Install) → IsTick settings users s next f r l
    → In i (installed_at s (key_by settings s next f r l))
    → IsGiven settings (happened (events.Tick s next) f ∷ r) i
tick-makes settings users s next f r l i t there = go (key_by settings s next f r l) refl there
  where
    go : (o : Option Key) → key_by settings s next f r l ≡ o → In i (installed_at s o)
        → IsGiven settings (happened (events.Tick s next) f ∷ r) i
    go None e there = elim there [ ]
    go (Some key) e (inl same) =
        subst (IsGiven settings (happened (events.Tick s next) f ∷ r)) (sym same)
        (made-given settings users s next f r l key t e)
    go (Some key) e (inr none) = elim none [ ]

-- the life of a station that ticks
ticking : (settings : Settings) (users : List UserFrame) (s next : ℕ) (f : List Fact) (r : Run)
    → IsStep settings users (happened (events.Tick s next) f) r → (l : Life)
    × (life settings s r ≡ Some l)
unfolding expected
ticking settings users s next f r step =
    let found = mapped (tick_facts settings s r next (sak_in f)) (life settings s r) f step.shows in
    (found.0, found.1)

-- an event that makes no key
quiet-makes : (settings : Settings) (r : Run) (i : Install) (x : Happening)
    → shown_made x.facts x.event ≡ [] → In i (makes (x ∷ r))
    → (In i (makes r) → IsGiven settings r i) → IsGiven settings (x ∷ r) i
quiet-makes settings r i x none there before =
    given-later settings x r i (before (subst (λ w. In i w) (makes-same x r none) there))

makes-by : (settings : Settings) (users : List UserFrame) (r : Run) (i : Install) (e : Event)
    (f : List Fact)
    → IsStepped settings users (happened e f ∷ r) → IsFresh (happened e f ∷ r)
    → IsUnforged settings (happened e f ∷ r) → In i (makes (happened e f ∷ r))
    → (In i (makes r) → IsGiven settings r i) → IsGiven settings (happened e f ∷ r) i
makes-by settings users r i (events.Tick s next) f stepped fresh unforged there before =
    let l = ticking settings users s next f r stepped.0 in
    let t : IsTick settings users s next f r l.0 =
    record { stepped = stepped; fresh = fresh; unforged = unforged; living = l.1 } in
    let x = happened (events.Tick s next) f in
    let gist = gist-of settings users s next f r l.0 t in
    let grown : makes (x ∷ r) ≡ installed_at s (key_by settings s next f r l.0) ++ makes r =
    makes-next x r ∙ gist.installs (makes r) in
    elim (in-either (installed_at s (key_by settings s next f r l.0)) (makes r) i
    (subst (λ w. In i w) grown there)) [
      | inl here ↦ tick-makes settings users s next f r l.0 i t here
      | inr older ↦ given-later settings x r i (before older)
    ]
makes-by settings users r i (events.Start name sci priority) f stepped fresh unforged there before =
    quiet-makes settings r i (happened (events.Start name sci priority) f) refl there before
makes-by settings users r i (events.Deliver frame s) f stepped fresh unforged there before =
    quiet-makes settings r i (happened (events.Deliver frame s) f) refl there before
makes-by settings users r i (events.Restart s) f stepped fresh unforged there before =
    quiet-makes settings r i (happened (events.Restart s) f) refl there before
makes-by settings users r i (events.Claim s user pn) f stepped fresh unforged there before =
    quiet-makes settings r i (happened (events.Claim s user pn) f) refl there before
makes-by settings users r i events.Emit f stepped fresh unforged there before =
    quiet-makes settings r i (happened events.Emit f) refl there before
makes-by settings users r i (events.Inject s octets) f stepped fresh unforged there before =
    quiet-makes settings r i (happened (events.Inject s octets) f) refl there before

none-made : (i : Install) → In i (makes []) → ⊥
unfolding makes
none-made i there = there

pub makes-given : (settings : Settings) (users : List UserFrame) (r : Run) (i : Install)
    → IsStepped settings users r → IsFresh r → IsUnforged settings r → In i (makes r)
    → IsGiven settings r i
makes-given settings users [] i stepped fresh unforged there = absurd (none-made i there)
makes-given settings users (x ∷ r) i stepped fresh unforged there =
    makes-by settings users r i x.event x.facts stepped fresh unforged there
    (makes-given settings users r i stepped.1 (front-fresh (x ∷ []) r fresh) unforged.1)

pub installed-given : (settings : Settings) (users : List UserFrame) (r : Run) (i : Install)
    → IsStepped settings users r → IsFresh r → IsUnforged settings r → Contains (installs r) i
    → IsGiven settings r i
installed-given settings users r i stepped fresh unforged there =
    let d = run-drawn settings users r (known settings users r stepped unforged) fresh i there in
    given-as-made settings r d.0 i
    (makes-given settings users r d.0 stepped fresh unforged
    (contains-in (makes r) d.0 d.1.made_there)) d.1.id d.1.an d.1.sak

-- ---- claims

-- a key of this epoch and association number
record IsUnder (key : Key) (an : AssociationNumber) (epoch : ℕ) : Type 0 where
  under : key.an ≡ an
  at : key.epoch ≡ epoch

claimed-under : (s pn : ℕ) (why : Lack) (an : AssociationNumber) (epoch : ℕ) (o : Option Key)
    → (b : Bool)
    → cond b (facts.Unclaimed s why) (number_fact s pn o) ∷ [] ≡ facts.Claimed s an epoch pn ∷ []
    → (key : Key) × (o ≡ Some key) × IsUnder key an epoch
claimed-under s pn why an epoch o true e = absurd (cc e)
claimed-under s pn why an epoch None false e = absurd (cc e)
claimed-under s pn why an epoch (Some key) false e =
    (key, refl, record { under = cc e; at = cc e })

-- the key under which a number is claimed is one that the station installed, and was given
pub claimed-given : (settings : Settings) (users : List UserFrame) (front : Run) (s user pn : ℕ)
    (an : AssociationNumber) (epoch : ℕ)
    → IsStepped settings users (a_claim s user an epoch pn ∷ front)
    → IsFresh (a_claim s user an epoch pn ∷ front)
    → IsUnforged settings (a_claim s user an epoch pn ∷ front)
    → HasGivenKey settings front s an epoch
unfolding expected
claimed-given settings users front s user pn an epoch stepped fresh unforged =
    let shown = mapped
    (λ l. claim_fact settings s front pn (transmitting_at settings s front) ∷ [])
    (life settings s front) (facts.Claimed s an epoch pn ∷ []) stepped.0.shows in
    let key = claimed-under s pn (lack settings s front (transmitting_at settings s front)) an epoch
    (transmitting_at settings s front) (pn == 0) shown.2 in
    let l = chained (λ (l : Life). transmitting (keys_in l)) (life settings s front) key.0 key.1 in
    let k = known settings users front stepped.1 unforged.1 in
    let v = k.living s l.0 l.1 in
    let there = in-contains (installs front) (install_by s key.0)
    (v.backed key.0 (transmitting-installed (keys_in l.0) key.0 l.2)) in
    record {
      install = install_by s key.0;
      there = there;
      station = refl;
      under = key.2.under;
      at = key.2.at;
      given = installed-given settings users front (install_by s key.0) stepped.1
          (front-fresh (a_claim s user an epoch pn ∷ []) front fresh) unforged.1 there;
    }

pub law-claimed : (settings : Settings) (users : List UserFrame) (later front : Run)
    (s user pn : ℕ) (an : AssociationNumber) (epoch : ℕ)
    → IsStepped settings users (later ++ a_claim s user an epoch pn ∷ front)
    → IsFresh (later ++ a_claim s user an epoch pn ∷ front)
    → IsUnforged settings (later ++ a_claim s user an epoch pn ∷ front)
    → HasGivenKey settings front s an epoch
law-claimed settings users later front s user pn an epoch stepped fresh unforged =
    let r = a_claim s user an epoch pn ∷ front in
    claimed-given settings users front s user pn an epoch
    (front-stepped settings users later r stepped) (front-fresh later r fresh)
    (front-unforged settings later r unforged)

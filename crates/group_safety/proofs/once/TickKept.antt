-- A tick keeps a run known.
use Rattle.std.proofs.Common.{◌≡◌, ◌≤◌, ◌+◌, refl, sym, ap, ◌∙◌, subst, inl, inr, ℕ, List, [], ◌∷◌}
use Rattle.std.proofs.Common.{◌++◌, length, map, Option, Some, None, arith}
use Rattle.std.specs.Prelude.{option_map, slice_get}
use Rattle.lan_base.specs.declared.frame.UserFrame.{UserFrame}
use Rattle.lan_base.specs.declared.address.Mi.{Mi}
use Rattle.lan_base.specs.Ranges.{IsCkn, most_ticks}
use Rattle.aes_block.specs.declared.secret.Secret.{Secret}
use Rattle.aes_block.specs.Secrets.{secret_octets}
use Rattle.aes_block.specs.Aes.{IsKey as IsCipherKey}
use Rattle.aes_cmac.specs.Cmac.{cmac}
use Rattle.mkpdu_codec.specs.declared.announcement.Announcement.{Announcement}
use Rattle.mkpdu_codec.specs.Frames.{Spells}
use Rattle.mkpdu_codec.specs.Written.{written}
use Rattle.peer_lists.specs.Histories.{last_sent}
use Rattle.sak_exchange.specs.declared.due.Seen.{Seen}
use Rattle.sak_exchange.specs.declared.held_key.Key.{Key}
use Rattle.sak_exchange.specs.Histories as keys
use Rattle.mka_station.specs.Lives.{Member, Entry, Setup, peers_of, keys_of}
use Rattle.mka_station.specs.Announcing.{frame_of}
use Rattle.mka_station.specs.Tick.{with_sent}
use Rattle.mka_station.specs.Tick.{ticked_past, says_at}
use Rattle.lan_core.specs.declared.event.Event.TheVariants as events
use Rattle.lan_core.specs.declared.fact.Fact.{Fact}
use Rattle.lan_core.specs.declared.settings.Settings.{Settings}
use Rattle.lan_core.specs.Run.{Run, Happening, happened, stations}
use Rattle.lan_core.specs.Ledgers.{Install, installs, Frame, next_frame}
use Rattle.lan_core.specs.Lives.{Life, life, lived, seen_at, turn_at_tick, sak_in}
use Rattle.lan_core.specs.Expected.{expected, tick_facts}
use Rattle.lan_core.specs.Order.{ticks}
use Rattle.lan_core.specs.Types.{IsSetting, IsSecret}
use Rattle.lan_core.specs.Legal.{IsStep}
use Rattle.lan_core.specs.Fresh.{drawn_saks}
use Rattle.group_safety.specs.Once.{makes}
use Rattle.group_safety.proofs.Members.{In, in-left}
use Rattle.group_safety.proofs.once.Ledgers.{Said, Book, Change, MaySay, book, AreAllowed}
use Rattle.group_safety.proofs.once.Histories.{heard_of, deeds, deeds_of, deeds-ticked, keys-said}
use Rattle.group_safety.proofs.once.Histories.{sent-before, sent-some, heard-ticked}
use Rattle.group_safety.proofs.once.KeysSound.{AreSound, sound-more}
use Rattle.group_safety.proofs.once.Rules.{said_by}
use Rattle.group_safety.proofs.once.Origins.{said-later}
use Rattle.group_safety.proofs.once.Carried.{IsCarried}
use Rattle.group_safety.proofs.once.Gists.{IsGist, installed_at, sent_frame}
use Rattle.group_safety.proofs.once.Nexts.{births-next, installs-next, claims-next, stations-next}
use Rattle.group_safety.proofs.once.Nexts.{get-more, in-get, mapped}
use Rattle.group_safety.proofs.once.Books.{Follows, changes_made, changes_said, one_said}
use Rattle.group_safety.proofs.once.Books.{made-follows, made-allowed, said-follows, said-allowed}
use Rattle.group_safety.proofs.once.Living.{group_kek, IsTold, install_by, IsLiving, IsPlain}
use Rattle.group_safety.proofs.once.Living.{IsKnown, kek-key, ick-key}
use Rattle.group_safety.proofs.once.Ticking.{tick_key, tick_roster, tick_lead}
use Rattle.group_safety.proofs.once.Ticking.{turn-past, tick-sound, tick-may-make, said-may}
use Rattle.group_safety.proofs.once.Ticking.{said-spells, announced-next, IsReady, IsSpeaker}
use Rattle.group_safety.proofs.once.EventsKeepKnown.{seen-small, tick-gist, drawn-secret}
use Rattle.group_safety.proofs.once.EventsKeepKnown.{tick-drawn}
use Rattle.group_safety.proofs.once.EventsKeepKnown.{tick-lives, tick-backed}
use Rattle.group_safety.proofs.once.Stepping.{follows-on, plain-same, turn-kept}

-- what is known of a station that speaks
pub speaker-of : (settings : Settings) (users : List UserFrame) (r : Run) (s : ℕ) (l : Life)
    → IsSetting settings
    → IsPlain settings users r → IsLiving settings r s l → IsSpeaker l.member l.past (ticks r)
speaker-of settings users r s l is plain v = record {
  sci = ap (λ (w : Setup). length w.sci.0) v.setup
      ∙ (plain.typed v.profile (in-get (stations r) s v.profile v.place)).count;
  ckn = subst (λ (w : Setup). IsCkn w.ckn) (sym v.setup) is.ckn;
  ick = subst (λ (w : Setup). IsCipherKey w.ick) (sym v.setup) (ick-key settings v.profile is);
  kek = subst (λ (w : Setup). IsCipherKey w.kek) (sym v.setup) (kek-key settings is);
  sent = v.sent;
  heard = v.heard;
}

tick-on : (settings : Settings) (users : List UserFrame) (s next : ℕ) (f : List Fact) (r : Run)
    (l : Life)
    → IsSetting settings → IsStep settings users (happened (events.Tick s next) f) r
    → IsKnown settings users r
    → life settings s r ≡ Some l → tick_facts settings s r next (sak_in f) l ≡ f
    → IsKnown settings users (happened (events.Tick s next) f ∷ r)
tick-on settings users s next f r l is step k living shows =
    turn-kept settings users x r k s l' cs2 allowed2 g follows both.0 carried
    (tick-lives settings s next f r l living) living-then
    (plain-same settings users x r refl (births-next x r g) (claims-next x r g) refl both.1 k.plain)
  where
    x : Happening
    x = happened (events.Tick s next) f

    m : Member
    m = l.member

    p : List Entry
    p = l.past

    sak : Secret
    sak = sak_in f

    seen : Seen
    seen = seen_at settings s r l next

    most : ℕ
    most = ticks r

    key : Option Key
    key = tick_key m seen sak p

    ms : List Mi
    ms = tick_roster m p

    q : List Entry
    q = ticked_past m seen sak p

    said : Option Announcement
    said = says_at m seen sak p

    b : Book
    b = book k.changes

    l' : Life
    l' = lived l (turn_at_tick settings s r l next sak)

    v : IsLiving settings r s l
    v = k.living s l living

    g : IsGist f [] (installed_at s key)
        (sent_frame (next_frame r) s (option_map (frame_of m.setup) said)) []
    g = subst (λ w. IsGist w [] (installed_at s key)
        (sent_frame (next_frame r) s (option_map (frame_of m.setup) said)) [])
        shows (tick-gist settings s r next sak l)

    few : 1 + ticks r ≤ most_ticks
    few = step.within.ticks

    ready : IsReady m p most
    ready = record { mi = v.mi; keys = v.keys; few = omega (arith, few) }

    speaker : IsSpeaker m p most
    speaker = speaker-of settings users r s l is k.plain v

    secret : (n : Key) → key ≡ Some n → IsSecret sak
    secret = drawn-secret settings f s key g step.in_order.1.2

    sound : AreSound m.base m.mi (most + 1) (keys_of m q)
    sound = tick-sound m seen sak p most ready secret

    kek-same : m.setup.kek ≡ group_kek settings
    kek-same = ap (λ (w : Setup). w.kek) v.setup

    both : (makes (x ∷ r) ≡ installed_at s key ++ makes r)
        × (map (λ (i : Install). secret_octets i.sak) (makes (x ∷ r)) ≡ drawn_saks (x ∷ r))
    both = tick-drawn settings users s next f r key g k.plain

    in-book : b.life s ≡ Some (deeds l)
    in-book = k.shows.lives s l living

    cs1 : List Change
    cs1 = changes_made s (deeds l) ms key k.changes

    allowed1 : AreAllowed cs1
    allowed1 = made-allowed s (deeds l) ms key k.changes k.allowed
        (λ n e. tick-may-make b s m seen sak p most n in-book ready (secret n e) e)

    follows1 : Follows b (book cs1) s (deeds_of m q) (installed_at s key) (installed_at s key) []
    follows1 = subst (λ w. Follows b (book cs1) s w (installed_at s key) (installed_at s key) [])
        (sym (deeds-ticked m None ms key (tick_lead m p) p))
        (made-follows s (deeds l) ms key k.changes in-book)

    tells : Option Said
    tells = option_map (said_by m.setup.kek) said

    cs2 : List Change
    cs2 = changes_said s (deeds_of m q) tells cs1

    allowed2 : AreAllowed cs2
    allowed2 = said-allowed s (deeds_of m q) tells cs1 allowed1 (λ y e.
        let t = mapped (said_by m.setup.kek) said y e in
        subst (MaySay (book cs1) s (deeds_of m q)) t.2
        (said-may (book cs1) s m seen sak p (most + 1) t.0 follows1.here sound speaker.kek t.1))

    follows2 : Follows b (book cs2) s (deeds_of m q) (installed_at s key) (installed_at s key)
        (one_said tells)
    follows2 = follows-on b (book cs1) (book cs2) s (deeds_of m q) (deeds_of m q)
        (installed_at s key) (installed_at s key) (one_said tells)
        follows1 (said-follows s (deeds_of m q) tells cs1 follows1.here)

    past-is : l'.past ≡ with_sent said q
    past-is = turn-past m seen sak p

    deeds-same : deeds l' ≡ deeds_of m q
    deeds-same = ap (deeds_of m) past-is ∙ deeds-ticked m said ms key (tick_lead m p) p
        ∙ sym (deeds-ticked m None ms key (tick_lead m p) p)

    follows : Follows b (book cs2) s (deeds l') (installed_at s key) (installed_at s key)
        (one_said tells)
    follows =
        subst (λ w. Follows b (book cs2) s w (installed_at s key) (installed_at s key)
        (one_said tells)) (sym deeds-same) follows2

    -- what is said is told, under the key encrypting key of the group
    told : (a : Announcement) → said ≡ Some a → IsTold settings (book cs2) (x ∷ r) a
    told a e = record {
      said = subst (λ w. In (said_by w a) (book cs2).spoken) kek-same
          (subst (λ w. In (said_by m.setup.kek a) w) (sym follows2.spoken)
          (in-left (one_said tells) b.spoken (said_by m.setup.kek a)
          (subst (λ o. In (said_by m.setup.kek a) (one_said (option_map (said_by m.setup.kek) o)))
          (sym e) (inl refl))));
      origin = record {
        later = [];
        front = r;
        station = s;
        next = next;
        shown = f;
        split = refl;
        at = record { by = l; living = living; says = e };
      };
    }

    sent-carried : (o : Option Announcement) → said ≡ o → (y : Frame)
        → In y (sent_frame (next_frame r) s (option_map (frame_of m.setup) o))
        → IsCarried (IsTold settings (book cs2) (x ∷ r)) y.octets
    sent-carried None e y i = elim i [ ]
    sent-carried (Some a) e y (inl same) = inr (record {
      says = a;
      covered = length (written a);
      check = cmac m.setup.ick (written a);
      spells = subst (λ w. Spells w a (length (written a)) (cmac m.setup.ick (written a)))
          (sym (ap (λ (w : Frame). w.octets) same))
          (said-spells m seen sak p most a ready speaker (seen-small settings s r l next) sound e);
      told = told a e;
    })
    sent-carried (Some a) e y (inr i) = elim i [ ]

    carried : (y : Frame) → In y (sent_frame (next_frame r) s (option_map (frame_of m.setup) said))
        → IsCarried (IsTold settings (book cs2) (x ∷ r)) y.octets
    carried y i = sent-carried said refl y i

    sent-then : (o : Option Announcement) → said ≡ o
        → last_sent (peers_of m (with_sent o q)) ≤ 1 + ticks r
    sent-then None e =
        let same : last_sent (peers_of m q) ≡ last_sent (peers_of m p) =
        sent-before m ms key (tick_lead m p) p in
        let before = v.sent in omega (arith, same, before)
    sent-then (Some a) e =
        let same : last_sent (peers_of m (with_sent (Some a) q)) ≡ a.mn = sent-some m a q in
        let next' = announced-next m seen sak p a e in
        let before = v.sent in omega (arith, same, next', before)

    living-then : IsLiving settings (x ∷ r) s l'
    living-then = record {
      profile = v.profile;
      place = subst (λ w. slice_get w s ≡ Some v.profile) (sym (stations-next x r))
          (get-more (stations r) [] s v.profile v.place);
      setup = v.setup;
      mi = v.mi;
      keys = subst (AreSound m.base m.mi (1 + ticks r))
          (sym (ap (keys_of m) past-is ∙ keys-said m said q))
          (sound-more m.base m.mi (most + 1) (1 + ticks r) (keys_of m q) (omega arith) sound);
      sent = subst (λ w. last_sent (peers_of m w) ≤ 1 + ticks r) (sym past-is)
          (sent-then said refl);
      heard = λ a i. v.heard a
          (subst (λ w. In a w) (ap heard_of past-is ∙ heard-ticked said ms key (tick_lead m p) p)
          i);
      origins =
          λ a i. said-later settings x r a
          (v.origins a
          (subst (λ w. In a w) (ap heard_of past-is ∙ heard-ticked said ms key (tick_lead m p) p)
          i));
      backed = λ n i. subst (λ w. In (install_by s n) w) (sym (installs-next x r g))
          (tick-backed m seen sak p s (installs r) v.backed n
          (subst (λ w. In n (keys.installs w)) (ap (keys_of m) past-is ∙ keys-said m said q) i));
    }

pub tick-kept : (settings : Settings) (users : List UserFrame) (s next : ℕ) (f : List Fact)
    (r : Run)
    → IsStep settings users (happened (events.Tick s next) f) r → IsKnown settings users r
    → IsKnown settings users (happened (events.Tick s next) f ∷ r)
unfolding expected
tick-kept settings users s next f r step k =
    let found = mapped (tick_facts settings s r next (sak_in f)) (life settings s r) f step.shows in
    tick-on settings users s next f r found.0 step.setting step k found.1 found.2

-- A frame that reaches a station keeps a run known.
use Rattle.std.proofs.Common.{◌≡◌, ◌≤◌, refl, sym, ap, ◌∙◌, subst, inl, inr, ℕ, List, [], ◌∷◌, ◌++◌}
use Rattle.std.proofs.Common.{map, Bool, true, false, cond, not, ◌&&◌, Option, Some, None, is_some}
use Rattle.std.proofs.Common.{Result, Ok, Err, arith}
use Rattle.std.specs.Prelude.{option_map, slice_get, ◌==◌}
use Rattle.std.specs.List.{list_any}
use Rattle.std.proofs.lemmas.Bool.Decides.{eqb_tells}
use Rattle.std.proofs.lemmas.Bool.{true≢false}
use Rattle.lan_base.specs.declared.frame.UserFrame.{UserFrame}
use Rattle.gcm_frames.specs.Tags.{is_sec}
use Rattle.mkpdu_codec.specs.declared.announcement.Announcement.{Announcement}
use Rattle.mkpdu_codec.specs.declared.spelled.Spelled.{Spelled}
use Rattle.mkpdu_codec.specs.Reading.{reading}
use Rattle.peer_lists.specs.Histories.{last_sent}
use Rattle.rx_slots.specs.declared.arrival.Arrival.{Arrival}
use Rattle.rx_slots.specs.Numbers.{answer}
use Rattle.sak_exchange.specs.declared.held_key.Key.{Key}
use Rattle.sak_exchange.specs.Histories.{Keying}
use Rattle.sak_exchange.specs.Histories as keys
use Rattle.sak_exchange.specs.Beginning.{Beginning}
use Rattle.mka_station.specs.declared.verdict.DropReason.{DropReason}
use Rattle.mka_station.specs.Lives.{Member, Entry, Setup, peers_of, keys_of}
use Rattle.mka_station.specs.Tick.{Turn}
use Rattle.mka_station.specs.Hearing.{judged, right, hear_turn, heard_turn, frame_turn, drop_turn}
use Rattle.mka_station.specs.Hearing.{follow_at}
use Rattle.lan_core.specs.declared.event.Event.TheVariants as events
use Rattle.lan_core.specs.declared.fact.Fact.{Fact}
use Rattle.lan_core.specs.declared.fact.Fact.TheVariants as facts
use Rattle.lan_core.specs.declared.settings.Settings.{Settings}
use Rattle.lan_core.specs.Run.{Run, Happening, happened, started, stations}
use Rattle.lan_core.specs.Ledgers.{Install, installs, Frame, air, frame_at}
use Rattle.lan_core.specs.Lives.{Life, life, lived, lived_hearing, lived_reached, receiving}
use Rattle.lan_core.specs.Lives.{setup_of}
use Rattle.lan_core.specs.Claims.{claimed_by}
use Rattle.lan_core.specs.Expected.{expected, reaction_facts, reached_facts}
use Rattle.lan_core.specs.Order.{ticks}
use Rattle.lan_core.specs.Legal.{IsStep}
use Rattle.lan_core.specs.Fresh.{drawn_saks, repeats, is_right, is_forged, IsUnforgedBy}
use Rattle.group_safety.specs.Once.{shown_made}
use Rattle.group_safety.proofs.Members.{In, in-any, any-in}
use Rattle.group_safety.proofs.once.Ledgers.{Change, book, AreAllowed}
use Rattle.group_safety.proofs.once.Currents.{some-same}
use Rattle.group_safety.proofs.once.Histories.{heard_of, deeds, deeds_of, with_key, with_began}
use Rattle.group_safety.proofs.once.Histories.{past_heard, deeds-heard, sent-heard, heard-heard}
use Rattle.group_safety.proofs.once.LiveHeard.{in-find}
use Rattle.group_safety.proofs.once.KeysSound.{AreSound}
use Rattle.group_safety.proofs.once.Rules.{said_by, key_heard}
use Rattle.group_safety.proofs.once.Frames.{IsRanged}
use Rattle.group_safety.proofs.once.Origins.{IsSaid, said-later}
use Rattle.group_safety.proofs.once.Carried.{IsHeardOf, carried-heard, repeated-heard, judged-read}
use Rattle.group_safety.proofs.once.Gists.{IsGist, IsQuiet, installed_at, sent_frame, reaction-is}
use Rattle.group_safety.proofs.once.Gists.{quiet-none}
use Rattle.group_safety.proofs.once.Nexts.{makes-same, births-next, installs-next, claims-next}
use Rattle.group_safety.proofs.once.Nexts.{drawn-next, stations-next, life-next, get-more, in-get}
use Rattle.group_safety.proofs.once.Nexts.{mapped, chained}
use Rattle.group_safety.proofs.once.Books.{Follows, follows-itself, changes_heard, heard-follows}
use Rattle.group_safety.proofs.once.Books.{heard-allowed}
use Rattle.group_safety.proofs.once.Living.{group_kek, IsTold, install_by, IsLiving, IsPlain}
use Rattle.group_safety.proofs.once.Living.{IsKnown, living-later}
use Rattle.group_safety.proofs.once.Hearing.{hear-past, hear-silent, hear-changes}
use Rattle.group_safety.proofs.once.Hearing.{heard-keys, hear-sound, hear-may-take}
use Rattle.group_safety.proofs.once.Stepping.{plain-same, IsLifeOf, turn-kept}

-- the keys that a station installed by then, at a hearing
hear-backed : (b : Option Beginning) (o : Option Key) (h : List Keying) (s : ℕ) (is : List Install)
    → ((k : Key) → In k (keys.installs h) → In (install_by s k) is) → (k : Key)
    → In k (keys.installs (with_began b (with_key None o h)))
    → In (install_by s k) (installed_at s o ++ is)
hear-backed None None h s is backed k i = backed k i
hear-backed (Some b) None h s is backed k i = backed k i
hear-backed None (Some n) h s is backed k i =
    elim i [ inl e ↦ inl (ap (install_by s) e) | inr j ↦ inr (backed k j) ]
hear-backed (Some b) (Some n) h s is backed k i =
    elim i [ inl e ↦ inl (ap (install_by s) e) | inr j ↦ inr (backed k j) ]

-- octets reach a station: what the event and its facts are, and what it does to the lives
pub record Reaches (settings : Settings) (x : Happening) (r : Run) (s number : ℕ) (octets : List ℕ)
    (l : Life) : Type 0 where
  pub living : life settings s r ≡ Some l
  pub shows : reached_facts settings s r number octets l ≡ x.facts
  pub lives : IsLifeOf settings x r s (lived_hearing l octets)
  pub no_start : started x.event ≡ []
  pub no_claim : claimed_by settings r x.event ≡ []
  pub no_tick : shown_made x.facts x.event ≡ []
  pub no_draw : drawn_saks (x ∷ r) ≡ drawn_saks r
  pub ticks : ticks (x ∷ r) ≡ ticks r

plain-on : (settings : Settings) (users : List UserFrame) (x : Happening) (r : Run) (s number : ℕ)
    (octets : List ℕ) (l : Life) {is : List Install} → Reaches settings x r s number octets l
    → IsGist x.facts [] is [] [] → IsPlain settings users r → IsPlain settings users (x ∷ r)
plain-on settings users x r s number octets l c g v =
    plain-same settings users x r c.no_start (births-next x r g) (claims-next x r g) c.no_claim
    (ap (map _) (makes-same x r c.no_tick) ∙ v.drawn ∙ sym c.no_draw) v

-- nothing comes of them
quiet-kept : (settings : Settings) (users : List UserFrame) (x : Happening) (r : Run) (s number : ℕ)
    (octets : List ℕ) (l : Life) → Reaches settings x r s number octets l → IsQuiet x.facts
    → lived_hearing l octets ≡ l → IsKnown settings users r → IsKnown settings users (x ∷ r)
quiet-kept settings users x r s number octets l c g same k =
    turn-kept settings users x r k s l k.changes k.allowed g
    (follows-itself (book k.changes) s (deeds l) (k.shows.lives s l c.living))
    (makes-same x r c.no_tick)
    (λ f i. elim i [ ])
    (subst (IsLifeOf settings x r s) same c.lives)
    (living-later settings x r s l g (k.living s l c.living))
    (plain-on settings users x r s number octets l c g k.plain)

-- an announcement is heard
hear-kept : (settings : Settings) (users : List UserFrame) (x : Happening) (r : Run) (s number : ℕ)
    (octets : List ℕ) (l : Life) (a : Announcement) → Reaches settings x r s number octets l
    → IsGist x.facts [] (installed_at s (key_heard l.member a l.past)) [] []
    → lived_hearing l octets ≡ lived l (hear_turn l.member a l.past)
    → (k : IsKnown settings users r) → IsHeardOf (IsTold settings (book k.changes) r) a
    → IsKnown settings users (x ∷ r)
hear-kept settings users x r s number octets l a c g same k heard =
    turn-kept settings users x r k s l' cs allowed g follows (makes-same x r c.no_tick)
    (λ f i. elim i [ ]) (subst (IsLifeOf settings x r s) same c.lives) living
    (plain-on settings users x r s number octets l c g k.plain)
  where
    m : Member
    m = l.member

    p : List Entry
    p = l.past

    key : Option Key
    key = key_heard m a p

    l' : Life
    l' = lived l (hear_turn m a p)

    v : IsLiving settings r s l
    v = k.living s l c.living

    kek-same : m.setup.kek ≡ group_kek settings
    kek-same = ap (λ (w : Setup). w.kek) v.setup

    in-book : (book k.changes).life s ≡ Some (deeds l)
    in-book = k.shows.lives s l c.living

    cs : List Change
    cs = changes_heard s (deeds l) (said_by m.setup.kek a) key k.changes

    allowed : AreAllowed cs
    allowed = heard-allowed s (deeds l) (said_by m.setup.kek a) key k.changes k.allowed in-book
        (subst (λ w. In (said_by w a) (book k.changes).spoken) (sym kek-same) heard.told.said)
        (λ n e. hear-may-take m a p (ticks r) n v.keys heard.ranged heard.gift e)

    past-is : l'.past ≡ past_heard (follow_at m a p) key a p
    past-is = hear-past m a p

    follows : Follows (book k.changes) (book cs) s (deeds l') (installed_at s key) [] []
    follows = subst (λ w. Follows (book k.changes) (book cs) s w (installed_at s key) [] [])
        (sym (ap (deeds_of m) past-is ∙ deeds-heard m (follow_at m a p) key a p))
        (heard-follows s (deeds l) (said_by m.setup.kek a) key k.changes in-book)

    now-heard : (b : Announcement) → In b (a ∷ heard_of p) → IsRanged b
    now-heard b (inl e) = subst IsRanged (sym e) heard.ranged
    now-heard b (inr i) = v.heard b i

    now-said : (b : Announcement) → In b (a ∷ heard_of p) → IsSaid settings (x ∷ r) b
    now-said b (inl e) = subst (IsSaid settings (x ∷ r)) (sym e)
        (said-later settings x r a heard.told.origin)
    now-said b (inr i) = said-later settings x r b (v.origins b i)

    living : IsLiving settings (x ∷ r) s l'
    living = record {
      profile = v.profile;
      place = subst (λ w. slice_get w s ≡ Some v.profile) (sym (stations-next x r))
          (get-more (stations r) (started x.event) s v.profile v.place);
      setup = v.setup;
      mi = v.mi;
      keys = subst (λ n. AreSound m.base m.mi n (keys_of m l'.past)) (sym c.ticks)
          (subst (λ w. AreSound m.base m.mi (ticks r) (keys_of m w)) (sym past-is)
          (hear-sound m a p (ticks r) v.keys heard.ranged heard.gift));
      sent = subst (λ n. last_sent (peers_of m l'.past) ≤ n) (sym c.ticks)
          (subst (λ w. last_sent (peers_of m w) ≤ ticks r) (sym past-is)
          (subst (λ n. n ≤ ticks r) (sym (sent-heard m (follow_at m a p) key a p)) v.sent));
      heard = λ b i. now-heard b
          (subst (λ w. In b w) (ap heard_of past-is ∙ heard-heard (follow_at m a p) key a p) i);
      origins =
          λ b i. now-said b
          (subst (λ w. In b w) (ap heard_of past-is ∙ heard-heard (follow_at m a p) key a p) i);
      backed = λ n i. subst (λ w. In (install_by s n) w) (sym (installs-next x r g))
          (hear-backed (follow_at m a p) key (keys_of m p) s (installs r) v.backed n
          (subst (λ w. In n (keys.installs w)) (ap (keys_of m) past-is ∙ heard-keys m a p) i));
    }

-- ---- what reaches a station is protected, dropped, or heard

arrived-quiet : (f s : ℕ) (a : Arrival) → IsQuiet (facts.Arrived f s a ∷ [])
arrived-quiet f s a =
    record { births = λ xs. refl; installs = λ xs. refl; air = λ xs. refl; claims = λ xs. refl }

pub reach-kept : (settings : Settings) (users : List UserFrame) (x : Happening) (r : Run)
    (s number : ℕ)
    (octets : List ℕ) (l : Life) → Reaches settings x r s number octets l
    → (k : IsKnown settings users r)
    → ((sp : Spelled) → reading octets ≡ Ok sp → judged l.member.setup octets ≡ Ok sp.announcement
    → IsHeardOf (IsTold settings (book k.changes) r) sp.announcement)
    → IsKnown settings users (x ∷ r)
reach-kept settings users x r s number octets l c k heard = go (is_sec octets) refl
  where
    m : Member
    m = l.member

    arrival : Fact
    arrival = facts.Arrived number s (answer m.setup.sci settings.window (receiving s r) octets)

    turn : Result Announcement DropReason → Turn
    turn judgement = heard_turn m judgement l.past

    told : Turn → List Fact
    told t = reaction_facts s number 0 t.reaction

    -- the facts, and the life, by what the octets are
    facts-are : (b : Bool) → is_sec octets ≡ b
        → cond b (arrival ∷ []) (told (frame_turn m octets l.past)) ≡ x.facts
    facts-are b e = subst (λ w. cond w (arrival ∷ []) (told (frame_turn m octets l.past)) ≡ x.facts)
        e c.shows

    life-is : (b : Bool) → is_sec octets ≡ b
        → lived_hearing l octets ≡ cond b l (lived l (frame_turn m octets l.past))
    life-is b e = ap (λ w. cond w l (lived l (frame_turn m octets l.past))) e

    judge : (j : Result Announcement DropReason) → judged m.setup octets ≡ j → told (turn j)
        ≡ x.facts
        → lived_hearing l octets ≡ lived l (turn j) → IsKnown settings users (x ∷ r)
    judge (Err reason) e shows same =
        quiet-kept settings users x r s number octets l c
        (subst IsQuiet shows (reaction-is s number 0 (drop_turn reason l.past).reaction None
        quiet-none))
        same k
    judge (Ok a) e shows same =
        let read = judged-read m.setup octets a e in
        let g = reaction-is s number 0 (hear_turn m a l.past).reaction (key_heard m a l.past)
        (hear-changes s m a l.past) in
        hear-kept settings users x r s number octets l a c
        (subst (λ w. IsGist w [] (installed_at s (key_heard m a l.past)) [] []) shows
        (subst (λ o. IsGist (told (hear_turn m a l.past)) [] (installed_at s (key_heard m a l.past))
        (sent_frame 0 s o) []) (hear-silent m a l.past) g))
        same k
        (subst (IsHeardOf (IsTold settings (book k.changes) r)) read.2
        (heard read.0 read.1 (e ∙ ap Ok (sym read.2))))

    go : (b : Bool) → is_sec octets ≡ b → IsKnown settings users (x ∷ r)
    go true e =
        quiet-kept settings users x r s number octets l c
        (subst IsQuiet (facts-are true e) (arrived-quiet number s _)) (life-is true e) k
    go false e = judge (judged m.setup octets) refl (facts-are false e) (life-is false e)

-- ---- deliveries and foreign octets

reached-lives : (settings : Settings) (x : Happening) (r : Run) (s : ℕ) (octets : List ℕ) (l : Life)
    → life settings s r ≡ Some l
    → ((t : ℕ)
    → life settings t (x ∷ r) ≡ lived_reached (life settings t r)
    (cond (s == t) (Some octets) None))
    → IsLifeOf settings x r s (lived_hearing l octets)
reached-lives settings x r s octets l living on t n e = elim (eqb_tells s t) [
  | inl y ↦
      let there : life settings t r ≡ Some l = ap (λ w. life settings w r) (sym y.1) ∙ living in
      let now : lived_reached (Some l) (cond true (Some octets) None) ≡ Some n =
      rw (y.0, there) at (sym (on t) ∙ e) in
      inl (y.1, some-same now)
  | inr y ↦
      let now : lived_reached (life settings t r) (cond false (Some octets) None) ≡ Some n =
      rw y.0 at (sym (on t) ∙ e) in
      inr (y.1, now)
]

pub deliver-kept : (settings : Settings) (users : List UserFrame) (frame s : ℕ) (f : List Fact)
    (r : Run)
    → IsStep settings users (happened (events.Deliver frame s) f) r → IsKnown settings users r
    → IsKnown settings users (happened (events.Deliver frame s) f ∷ r)
unfolding expected
deliver-kept settings users frame s f r step k =
    let x = happened (events.Deliver frame s) f in
    let at = chained
    (λ y. option_map (reached_facts settings s r frame y.octets) (life settings s r))
    (frame_at r frame) f step.shows in
    let found = mapped (reached_facts settings s r frame at.0.octets) (life settings s r) f at.2 in
    let octets = at.0.octets in
    let lifes = (λ (t : ℕ). life-next settings t x r
    ∙ ap (λ (o : Option Frame). lived_reached (life settings t r)
    (cond (s == t) (option_map (λ y. y.octets) o) None)) at.1) in
    reach-kept settings users x r s frame octets found.0 (record {
      living = found.1;
      shows = found.2;
      lives = reached-lives settings x r s octets found.0 found.1 lifes;
      no_start = refl;
      no_claim = refl;
      no_tick = refl;
      no_draw = drawn-next x r;
      ticks = omega arith;
    }) k
    (λ sp read right. carried-heard (IsTold settings (book k.changes) r) octets sp
    (k.shows.air at.0 (in-find (λ y. y.number == frame) (air r) at.0 at.1)) read)

-- ---- foreign octets

pub right-some : (setup : Setup) (octets : List ℕ) (a : Announcement) → judged setup octets ≡ Ok a
    → is_some (right setup octets) ≡ true
right-some setup octets a e =
    ap (λ (j : Result Announcement DropReason). is_some (elim j [
      | Ok a ↦ Some a
      | Err reason ↦ None
    ])) e

pub unforged-repeats : (settings : Settings) (r : Run) (octets : List ℕ)
    → is_forged settings r octets ≡ false
    → is_right settings r octets ≡ true → list_any (repeats octets) (air r) ≡ true
unforged-repeats settings r octets e right =
    go (is_right settings r octets) (list_any (repeats octets) (air r)) right e
  where
    go : (b c : Bool) → b ≡ true → (b && not c) ≡ false → c ≡ true
    go true true t f = refl
    go true false t f = absurd (true≢false f)
    go false c t f = absurd (true≢false (sym t))

pub inject-kept : (settings : Settings) (users : List UserFrame) (s : ℕ) (octets : List ℕ)
    (f : List Fact) (r : Run)
    → IsStep settings users (happened (events.Inject s octets) f) r
    → IsUnforgedBy settings r (events.Inject s octets) → IsKnown settings users r
    → IsKnown settings users (happened (events.Inject s octets) f ∷ r)
unfolding expected
inject-kept settings users s octets f r step unforged k =
    let x = happened (events.Inject s octets) f in
    let found = mapped (reached_facts settings s r 0 octets) (life settings s r) f step.shows in
    let l = found.0 in
    let v = k.living s l found.1 in
    reach-kept settings users x r s 0 octets l (record {
      living = found.1;
      shows = found.2;
      lives = reached-lives settings x r s octets l found.1 (λ t. life-next settings t x r);
      no_start = refl;
      no_claim = refl;
      no_tick = refl;
      no_draw = drawn-next x r;
      ticks = omega arith;
    }) k
    (λ sp read judge.
    let here : judged (setup_of settings v.profile) octets ≡ Ok sp.announcement =
    subst (λ w. judged w octets ≡ Ok sp.announcement) v.setup judge in
    let is = in-any (λ p. is_some (right (setup_of settings p) octets)) (stations r) v.profile
    (in-get (stations r) s v.profile v.place)
    (right-some (setup_of settings v.profile) octets sp.announcement here) in
    let one = any-in (repeats octets) (air r) (unforged-repeats settings r octets unforged is) in
    repeated-heard (IsTold settings (book k.changes) r) octets one.0.octets sp step.in_order.0.1
    read
    (k.shows.air one.0 one.1) one.2)

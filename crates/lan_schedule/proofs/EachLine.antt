-- Lines that are performed from the beginning leave a tidy world.
use Rattle.std.proofs.Common.{◌≡◌, ◌<◌, ◌≤◌, ◌+◌, ◌^◌, ◌==◌, ℕ, suc, Bool, true, false, List, []}
use Rattle.std.proofs.Common.{◌∷◌, ◌++◌, length, length-append, Option, Some, None}
use Rattle.std.proofs.Common.{◌⊎◌, inl, inr, refl, sym, ap, ◌∙◌, subst, arith}
use Rattle.std.specs.Prelude.{Result, Ok, Err, cond, is_some, unwrap_or}
use Rattle.lan_base.specs.Ranges.{IsCkn}
use Rattle.lan_base.specs.declared.frame.UserFrame.{UserFrame}
use Rattle.aes_block.specs.declared.secret.Secret.TheVariants.{S128, S256}
use Rattle.lan_core.specs.declared.event.Event.TheVariants.{Start}
use Rattle.lan_core.specs.Types.{IsTyped, IsSecret, AreOctets}
use Rattle.trace_text.specs.declared.fault.TextFault.{TextFault}
use Rattle.trace_text.specs.declared.line.Line.{Line}
use Rattle.trace_text.specs.declared.line.Line.TheVariants as lines
use Rattle.trace_text.specs.Reading.{line_in}
use Rattle.trace_text.specs.Writing.{IsInForm}
use Rattle.trace_text.proofs.Public.{read_fits}
use Rattle.trace_acts.specs.declared.choices.Choices.{Choices}
use Rattle.trace_acts.specs.declared.choices.Keyed.{Keyed}
use Rattle.trace_acts.specs.declared.halt.Kind.{Kind}
use Rattle.trace_acts.specs.Settings.{no_choice, secret_of, unkeyed, settings_of}
use Rattle.trace_acts.specs.Kinds.{first_of}
use Rattle.trace_acts.specs.Choosing.{chosen_by}
use Rattle.trace_acts.proofs.Public.{bytes-all}
use Rattle.lan_schedule.specs.Races.{Burst, Excess, Numbered}
use Rattle.lan_schedule.specs.Races.{Chance, Phase, Apart, Bursting, Controlling, Racing}
use Rattle.lan_schedule.specs.World.{World, Kept, beginning, settings, is_racing}
use Rattle.lan_schedule.specs.Acts.{Act, Course, Goes, Stops, happen, seq}
use Rattle.lan_schedule.specs.Acts.{perform, and_then, world_of, course}
use Rattle.lan_schedule.specs.declared.deed.Deed.{Deed}
use Rattle.lan_schedule.specs.declared.deed.Deed.TheVariants as deeds
use Rattle.lan_schedule.specs.Deeds.{IsInRange}
use Rattle.lan_schedule.specs.Kinds.{refusal, refusal_read, may_stand, wrong_at}
use Rattle.lan_schedule.specs.Lines.{act, deed, deed_at, deed_read, send, unless_refused}
use Rattle.lan_schedule.specs.Lines.{deed_controlling, excess_of}
use Rattle.lan_schedule.specs.Lines.{behind_race, behind_while, close_at, performed_whole}
use Rattle.lan_schedule.specs.Lines.{performed, performed_all}
use Rattle.lan_schedule.specs.Lines.{add_user, is_over, line_after, over_excess}
use Rattle.lan_schedule.specs.Lines.{unless_exceeded}
use Rattle.lan_schedule.specs.Sound.{IsTidy, HasRunNone}
use Rattle.lan_schedule.specs.inside.Comes.{Comes}
use Rattle.lan_schedule.proofs.Bounded.{AreBounded, bounded-first}
use Rattle.lan_schedule.proofs.LinesCome.{IsRight, is-right, tidy-same, tidy-entered}
use Rattle.lan_schedule.proofs.EachDeed.{allowed-deed, chosen-before, deed-comes, may_act}
use Rattle.lan_schedule.proofs.EachDeed.{mild-act, of-line, range-of}
use Rattle.lan_schedule.proofs.Beginning.{tidy-beginning}
use Rattle.lan_schedule.proofs.RunNone.{HasNone, run-none, behind-bursting, behind-lines, behind-close}
use Rattle.lan_schedule.proofs.Settled.{IsMild, IsOpen, HasSetting, stays-open}
use Rattle.lan_schedule.proofs.Settled.{mild-send}

-- ---- what was chosen

-- a group's keys and name have their lengths
abbrev IsNamed : Keyed → Type 0
IsNamed group = IsSecret group.cak × IsCkn group.ckn × AreOctets group.ckn

-- what was chosen is inside its ranges
record AreChosen (chosen : Choices) : Type 0 where
  window : unwrap_or chosen.window 0 < 2 ^ 32
  rekey : unwrap_or chosen.rekey 3221225472 < 2 ^ 32
  group : (named : Keyed) → chosen.group ≡ Some named → IsNamed named

chosen-first : AreChosen no_choice
chosen-first = record {
  window = omega arith;
  rekey = omega arith;
  group = λ named is. absurd (cc is);
}

same-count : (a b : ℕ) → (a == b) ≡ true → a ≡ b
same-count a b e = grind arith

secret-is : (octets : List ℕ) (b : Bool) → (length octets == 16) ≡ b
    → (length octets ≡ 16) ⊎ (length octets ≡ 32) → AreOctets octets
    → IsSecret (cond b (S128 octets) (S256 octets))
secret-is octets true is size all = (same-count (length octets) 16 is, all)
secret-is octets false is (inl short) all =
    absurd (let bad : (16 == 16) ≡ false = subst (λ (n : ℕ). (n == 16) ≡ false) short is in cc bad)
secret-is octets false is (inr long) all = (long, all)

same-named : (a b : Keyed) → Some a ≡ Some b → a ≡ b
same-named a b e = cc e

-- a line leaves what was chosen inside its ranges
chosen-stays : (line : Line) → IsInForm line → (chosen : Choices) → AreChosen chosen
    → AreChosen (chosen_by line chosen)
chosen-stays (lines.Window window) form chosen are =
    let most : window ≤ 4294967295 = form.fits.0.1 in
    let few : window < 2 ^ 32 = omega (arith, most) in
    record { window = few; rekey = are.rekey; group = are.group }
chosen-stays (lines.Rekey rekey) form chosen are =
    let most : rekey ≤ 4294967295 = form.fits.0.1 in
    let few : rekey < 2 ^ 32 = omega (arith, most) in
    record { window = are.window; rekey = few; group = are.group }
chosen-stays (lines.Group cak ckn) form chosen are =
    let named : Keyed = record { cak = secret_of cak; ckn = ckn } in
    let is : IsNamed named = (
      secret-is cak (length cak == 16) refl form.fits.0.0 (bytes-all cak form.fits.0.1),
      (form.fits.1.0.0, form.fits.1.0.1),
      bytes-all ckn form.fits.1.0.2,
    ) in
    record {
      window = are.window;
      rekey = are.rekey;
      group = λ other e. subst IsNamed (same-named named other e) is;
    }
chosen-stays _ form chosen are =
    record { window = are.window; rekey = are.rekey; group = are.group }

named-sets : (chosen : Choices) (o : Option Keyed) → chosen.group ≡ o → is_some o ≡ true
    → AreChosen chosen → HasSetting chosen
named-sets chosen None is there are = absurd (cc there)
named-sets chosen (Some named) is there are =
    let proper = are.group named is in
    let same : unwrap_or chosen.group unkeyed ≡ named =
    ap (λ (o : Option Keyed). unwrap_or o unkeyed) is in
    record {
      cak = subst (λ (g : Keyed). IsSecret g.cak) (sym same) proper.0;
      ckn = subst (λ (g : Keyed). IsCkn g.ckn) (sym same) proper.1;
      name_octets = subst (λ (g : Keyed). AreOctets g.ckn) (sym same) proper.2;
      window = are.window;
      rekey = are.rekey;
    }

-- ---- worlds between lines

-- a tidy world, in which at most so many user frames were sent
record IsReady (n : ℕ) (w : World) : Type 0 where
  users : length w.kept.users ≤ n
  chosen : AreChosen w.kept.chosen
  keyed : w.kept.begun ≡ true → is_some w.kept.chosen.group ≡ true
  calm : w.kept.raced ≡ false
  apart : is_racing w.kept.phase ≡ false
  bounded : AreBounded (settings w) w.run
  tidy : IsTidy w

ready-first : (chances : List Chance) → IsReady 0 (beginning chances)
ready-first chances = record {
  users = omega arith;
  chosen = chosen-first;
  keyed = λ e. absurd (cc e);
  calm = refl;
  apart = refl;
  bounded = bounded-first (settings (beginning chances));
  tidy = tidy-beginning chances;
}

opened : (n : ℕ) (w : World) → IsReady n w → w.kept.begun ≡ true → IsOpen (suc n) w.kept.chosen w
opened n w ready begun = record {
  same = refl;
  users = let few = ready.users in omega (arith, few);
  begun = begun;
  calm = ready.calm;
  apart = ready.apart;
  bounded = ready.bounded;
  tidy = ready.tidy;
}

ready-again : (n : ℕ) (chosen : Choices) (w : World) → AreChosen chosen
    → is_some chosen.group ≡ true → IsOpen n chosen w → IsReady n w
ready-again n chosen w are keyed now = record {
  users = now.users;
  chosen = subst (λ (c : Choices). AreChosen c) (sym now.same) are;
  keyed = λ begun. subst (λ (c : Choices). is_some c.group ≡ true) (sym now.same) keyed;
  calm = now.calm;
  apart = now.apart;
  bounded = now.bounded;
  tidy = now.tidy;
}

-- ---- lines

-- before the first station a line chooses something
chosen-ready : (n : ℕ) (line : Line) (w : World) → IsInForm line → IsReady n w
    → w.kept.begun ≡ false
    → IsTidy (record w { kept = record w.kept { chosen = chosen_by line w.kept.chosen } })
    → IsReady (suc n) (record w { kept = record w.kept { chosen = chosen_by line w.kept.chosen } })
chosen-ready n line w form ready before tidy =
    let later = settings_of (chosen_by line w.kept.chosen) in
    record {
      users = let few = ready.users in omega (arith, few);
      chosen = chosen-stays line form w.kept.chosen ready.chosen;
      keyed = λ begun. absurd (let bad : true ≡ false = sym begun ∙ before in cc bad);
      calm = ready.calm;
      apart = ready.apart;
      bounded = subst (λ r. AreBounded later r) (sym (ready.tidy.waits before))
          (bounded-first later);
      tidy = tidy;
    }

-- after the first station a mild act is performed
mild-ready : (n : ℕ) (act : Act) (w : World) → suc n < 2 ^ 32 → IsMild (suc n) act → IsReady n w
    → w.kept.begun ≡ true → Comes act w → IsReady (suc n) (world_of (perform act w))
mild-ready n act w below mild ready begun comes =
    let keyed = ready.keyed begun in
    let setting = named-sets w.kept.chosen w.kept.chosen.group refl keyed ready.chosen in
    ready-again (suc n) w.kept.chosen (world_of (perform act w)) ready.chosen keyed
    (stays-open (suc n) w.kept.chosen below setting act w mild (opened n w ready begun) comes)

-- the first station, or another one, starts
station-ready : (n : ℕ) (act : Act) (w : World) → suc n < 2 ^ 32
    → IsMild (suc n) act → IsReady n w → is_some w.kept.chosen.group ≡ true
    → IsTidy (record w { kept = record w.kept { begun = true } })
    → Comes act (record w { kept = record w.kept { begun = true } })
    → IsReady (suc n) (world_of (perform act (record w { kept = record w.kept { begun = true } })))
station-ready n act w below mild ready keyed tidy comes =
    mild-ready n act (record w { kept = record w.kept { begun = true } }) below mild
    (record {
      users = ready.users;
      chosen = ready.chosen;
      keyed = λ begun. keyed;
      calm = ready.calm;
      apart = ready.apart;
      bounded = ready.bounded;
      tidy = tidy;
    }) refl comes

-- a user frame is added, and sent
send-ready : (n s : ℕ) (user : UserFrame) (w : World) → suc n < 2 ^ 32 → IsReady n w
    → w.kept.begun ≡ true
    → IsTidy (record w { kept = record w.kept { users = w.kept.users ++ user ∷ [] } })
    → Comes (send s) (record w { kept = record w.kept { users = w.kept.users ++ user ∷ [] } })
    → IsReady (suc n) (world_of (perform (send s)
    (record w { kept = record w.kept { users = w.kept.users ++ user ∷ [] } })))
send-ready n s user w below ready begun tidy comes =
    let v : World = record w { kept = record w.kept { users = w.kept.users ++ user ∷ [] } } in
    let keyed = ready.keyed begun in
    let setting = named-sets w.kept.chosen w.kept.chosen.group refl keyed ready.chosen in
    let now : IsOpen (suc n) w.kept.chosen v = record {
      same = refl;
      users = let one = length-append w.kept.users (user ∷ []) in
          let few = ready.users in omega (arith, one, few);
      begun = begun;
      calm = ready.calm;
      apart = ready.apart;
      bounded = ready.bounded;
      tidy = tidy;
    } in
    ready-again (suc n) w.kept.chosen (world_of (perform (send s) v)) ready.chosen keyed
    (stays-open (suc n) w.kept.chosen below setting (send s) v (mild-send (suc n) s) now comes)

-- the lines stand elsewhere
entered-ready : (n : ℕ) (phase : Phase) (w : World) → IsReady n w → is_racing phase ≡ false
    → IsTidy (record w { kept = record w.kept { phase = phase } })
    → IsReady (suc n) (record w { kept = record w.kept { phase = phase } })
entered-ready n phase w ready apart tidy = record {
  users = let few = ready.users in omega (arith, few);
  chosen = ready.chosen;
  keyed = ready.keyed;
  calm = ready.calm;
  apart = apart;
  bounded = ready.bounded;
  tidy = tidy;
}

more-ready : (n : ℕ) (w : World) → IsReady n w → IsReady (suc n) w
more-ready n w ready = record {
  users = let few = ready.users in omega (arith, few);
  chosen = ready.chosen;
  keyed = ready.keyed;
  calm = ready.calm;
  apart = ready.apart;
  bounded = ready.bounded;
  tidy = ready.tidy;
}

-- what asks for too much leaves the world as it was
exceeded-ready : (n : ℕ) (o : Option Excess) (act : Act) (w : World) → IsReady n w
    → Comes (unless_exceeded o act) w
    → (Comes act w → IsReady (suc n) (world_of (perform act w)))
    → IsReady (suc n) (world_of (perform (unless_exceeded o act) w))
exceeded-ready n None act w ready comes goes = goes comes
exceeded-ready n (Some excess) act w ready comes goes = more-ready n w ready

-- what a deed performs that may be done leaves such a world
act-ready : (n : ℕ) (d : Deed) (w : World) → suc n < 2 ^ 32 → IsInRange d → IsReady n w
    → may_act d w.kept.begun w.kept.chosen ≡ true → Comes (act d) w
    → IsReady (suc n) (world_of (perform (act d) w))
act-ready n (deeds.Start name sci priority) w below ranges ready may comes =
    let small : priority ≤ 255 = ranges.2 in
    let typed : IsTyped (Start name sci priority) = (ranges.0, ranges.1, omega (arith, small)) in
    station-ready n (happen (Start name sci priority)) w below typed ready may comes.0
    (comes.1 comes.0)
act-ready n (deeds.Send s user) w below ranges ready may comes =
    exceeded-ready n (over_excess (is_over w 1 1)) (seq (add_user user) (send s)) w ready comes
    (λ goes. send-ready n s user w below ready may goes.0 (goes.1 goes.0))
act-ready n d w below ranges ready may comes =
    mild-ready n (act d) w below (mild-act (suc n) d ranges refl) ready may comes

-- and so does what a line performs outside a race that isn't refused
deed-ready : (n : ℕ) (line : Line) (w : World) → suc n < 2 ^ 32 → IsInForm line → IsReady n w
    → IsRight line w → Comes (deed line w) w
    → IsReady (suc n) (world_of (perform (deed line w) w))
deed-ready n line w below form ready right = of-line
    (λ a. Comes a w → IsReady (suc n) (world_of (perform a w))) line w
    (λ d is comes. act-ready n d w below (range-of line _ d form is) ready
    (sym (allowed-deed line _ w.kept.begun w.kept.chosen d is) ∙ right.allowed) comes)
    (λ none isnt comes. chosen-ready n line w form ready
    (chosen-before line _ w.kept.begun w.kept.chosen none isnt right.allowed) comes)
    (λ is comes. entered-ready n (Bursting []) w ready refl comes)

-- what is refused leaves the world as it was
unless-ready : (n : ℕ) (o : Option Kind) (act : Act) (w : World) → IsReady n w
    → HasNone (world_of (perform (unless_refused o act) w))
    → (o ≡ None → HasNone (world_of (perform act w)) → IsReady (suc n) (world_of (perform act w)))
    → IsReady (suc n) (world_of (perform (unless_refused o act) w))
unless-ready n None act w ready never goes = goes refl never
unless-ready n (Some kind) act w ready never goes = more-ready n w ready

-- the end of a race leaves such a world where it asks for too much, and so runs none
control-ready : (n : ℕ) (line : Line) (w : World) (bursts : List Burst) (control : List Numbered)
    → IsReady n w → HasNone (world_of (perform (deed_controlling line w bursts control) w))
    → IsReady (suc n) (world_of (perform (deed_controlling line w bursts control) w))
control-ready n lines.End w bursts control ready never =
    subst (λ (v : World). IsReady (suc n) v) (sym (run-none bursts control w (excess_of bursts w) never))
    (more-ready n w ready)
control-ready n line w bursts control ready never =
    entered-ready n (behind_while line w bursts control) w ready refl
    (tidy-entered w (behind_while line w bursts control) ready.tidy (sym ready.apart))

-- and so does what a line performs where it stands
at-ready : (n : ℕ) (line : Line) (w : World) (phase : Phase) → suc n < 2 ^ 32 → IsInForm line
    → IsReady n w → first_of (may_stand line w phase) (wrong_at line w phase)
    ≡ None → HasNone (world_of (perform (deed_at line w phase) w))
    → IsReady (suc n) (world_of (perform (deed_at line w phase) w))
at-ready n line w Apart below form ready none never =
    let right = is-right line w none in
    deed-ready n line w below form ready right (deed-comes line form w ready.tidy ready.apart right)
at-ready n line w (Bursting bursts) below form ready none never =
    let apart = behind-bursting line w bursts in
    entered-ready n (behind_race line w bursts) w ready apart
    (tidy-entered w (behind_race line w bursts) ready.tidy (apart ∙ sym ready.apart))
at-ready n line w (Controlling bursts control) below form ready none never =
    control-ready n line w bursts control ready never
at-ready n line w Racing below form ready none never = more-ready n w ready

said-ready : (n : ℕ) (text : List ℕ) (said : Result (Option Line) TextFault) (w : World)
    → suc n < 2 ^ 32 → IsReady n w → line_in text ≡ said
    → HasNone (world_of (perform (unless_refused (refusal_read said w) (deed_read said w)) w))
    → IsReady (suc n) (world_of (perform (unless_refused (refusal_read said w) (deed_read said w))
    w))
said-ready n text (Ok (Some line)) w below ready is never =
    unless-ready n (refusal line w) (deed_at line w w.kept.phase) w ready never
    (λ none calm. at-ready n line w w.kept.phase below (read_fits text line is) ready none calm)
said-ready n text (Ok None) w below ready is never = more-ready n w ready
said-ready n text (Err fault) w below ready is never = more-ready n w ready

-- a text that runs no race leaves such a world
text-ready : (n : ℕ) (text : List ℕ) (w : World) → suc n < 2 ^ 32 → IsReady n w
    → HasNone (world_of (perform (performed text) w))
    → IsReady (suc n) (world_of (perform (performed text) w))
text-ready n text w below ready never =
    let kept : Kept = record w.kept { line = line_after w.kept.line } in
    said-ready n text (line_in text) (record w { kept = kept }) below
    (record {
      users = ready.users;
      chosen = ready.chosen;
      keyed = ready.keyed;
      calm = ready.calm;
      apart = ready.apart;
      bounded = ready.bounded;
      tidy = tidy-same w kept ready.tidy refl refl refl refl refl (λ e. e) (λ e. e);
    }) refl never

-- a tidy world in which no race was begun, and none is performed
abbrev pub IsCalm : World → Type 0
IsCalm w = IsTidy w × (w.kept.raced ≡ false) × (is_racing w.kept.phase ≡ false)

then-calm : (n : ℕ) (out : Course) (texts : List (List ℕ))
    → HasNone (world_of (and_then out (λ v. perform (performed_all texts) v)))
    → (HasNone (world_of out) → IsReady n (world_of out))
    → ((v : World) → IsReady n v → HasNone (world_of (perform (performed_all texts) v))
    → IsCalm (world_of (perform (performed_all texts) v)))
    → IsCalm (world_of (and_then out (λ v. perform (performed_all texts) v)))
then-calm n (Goes v) texts never ready next =
    next v (ready ((behind-lines texts v).none never)) never
then-calm n (Stops v halt) texts never ready next =
    let last = ready never in (last.tidy, last.calm, last.apart)

texts-calm : (n : ℕ) (texts : List (List ℕ)) (w : World) → n + length texts < 2 ^ 32
    → IsReady n w → HasNone (world_of (perform (performed_all texts) w))
    → IsCalm (world_of (perform (performed_all texts) w))
texts-calm n [] w below ready never = (ready.tidy, ready.calm, ready.apart)
texts-calm n (text ∷ texts) w below ready never =
    then-calm (suc n) (perform (performed text) w) texts never
    (λ none. text-ready n text w (omega (arith, below)) ready none)
    (λ v later none. texts-calm (suc n) texts v (omega (arith, below)) later none)

-- fewer than 2^32 lines that run no race leave such a world
pub lines-calm : (chances : List Chance) (texts : List (List ℕ)) → length texts < 2 ^ 32
    → HasRunNone (course (performed_all texts) chances)
    → IsCalm (world_of (course (performed_all texts) chances))
lines-calm chances texts below never =
    texts-calm 0 texts (beginning chances) (omega (arith, below)) (ready-first chances) never

-- whatever they run, none is performed where they end
pub lines-apart : (chances : List Chance) (texts : List (List ℕ))
    → is_racing (world_of (course (performed_all texts) chances)).kept.phase ≡ false
lines-apart chances texts = (behind-lines texts (beginning chances)).apart refl

-- ---- the end of a trace

numbered-calm : (w : World) → IsCalm w
    → IsCalm (record w { kept = record w.kept { line = line_after w.kept.line } })
numbered-calm w calm =
    (tidy-same w _ calm.0 refl refl refl refl refl (λ e. e) (λ e. e), calm.1, calm.2)

close-calm : (phase : Phase) (w : World) → IsCalm w → IsCalm (world_of (perform (close_at phase) w))
close-calm Apart w calm = calm
close-calm (Bursting bursts) w calm = numbered-calm w calm
close-calm (Controlling bursts control) w calm = numbered-calm w calm
close-calm Racing w calm = numbered-calm w calm

whole-calm : (out : Course)
    → HasNone (world_of (and_then out (λ v. perform (close_at v.kept.phase) v)))
    → (HasNone (world_of out) → IsCalm (world_of out))
    → IsCalm (world_of (and_then out (λ v. perform (close_at v.kept.phase) v)))
whole-calm (Goes v) never calm =
    close-calm v.kept.phase v (calm ((behind-close v.kept.phase v).none never))
whole-calm (Stops v halt) never calm = calm never

-- fewer than 2^32 lines that are all of a trace, and run no race, leave such a world
pub trace-calm : (chances : List Chance) (texts : List (List ℕ)) → length texts < 2 ^ 32
    → HasRunNone (course (performed_whole texts) chances)
    → IsCalm (world_of (course (performed_whole texts) chances))
trace-calm chances texts below never =
    whole-calm (course (performed_all texts) chances) never
    (λ none. lines-calm chances texts below none)

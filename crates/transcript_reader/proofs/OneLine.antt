-- What a reader of facts answers to a line.
use Rattle.std.proofs.Common.{◌≡◌, ◌∙◌, ◌⊎◌, ℕ, List, Option, Some, None, Result, Ok, Err, inl, inr, refl, sym, ap, subst}
use Rattle.std.specs.Prelude.{◌↔◌, IfOk, OnErr}
use Rattle.lan_core.specs.declared.fact.Fact.{Fact}
use Rattle.transcript.specs.declared.fault.FactError.{FactError}
use Rattle.transcript.specs.declared.fault.FactError.TheVariants.{Unread, Memory}
use Rattle.transcript.specs.Rendering.{IsOfFrame}
use Rattle.transcript_reader.specs.declared.form.Form.{Form}
use Rattle.transcript_reader.specs.declared.group.Group.{Group}
use Rattle.transcript_reader.specs.Forms.{form_then, parted, placed}
use Rattle.transcript_reader.specs.Facts.{IsLife, IsLineIn, Known, Names, Tells, unnamed}
use Rattle.transcript_reader.specs.inside.Seeing.{IsRead}
use Rattle.transcript_reader.proofs.Places.{none-read, frame-placed, life-placed}

-- what is answered to a line
pub record IsAnswered (old : Known) (line : List ℕ) (new : Known) (r : Result Fact FactError) : Type 0 where
  pub read : IfOk r (λ fact. Tells old line new fact)
  pub found : (then : Known) (fact : Fact) → Tells old line then fact
      → IfOk r (λ answer. (answer ≡ fact) × (new ≡ then))
  pub unread : (r ≡ Err Unread) ↔ ((then : Known) (fact : Fact) → Tells old line then fact → ⊥)
  pub memory : r ≡ Err Memory → (then : Known) × (fact : Fact) × Tells old line then fact
  pub frames : r ≡ Err Memory → (then : Known) (fact : Fact) → Tells old line then fact → IsOfFrame fact
  pub kept : OnErr r (new ≡ old)
  pub still : IfOk r (λ fact. (new ≡ old) ⊎ IsLife fact)

unread-answered : (old : Known) (line : List ℕ)
    → ((then : Known) (fact : Fact) → Tells old line then fact → ⊥) → IsAnswered old line old (Err Unread)
unread-answered old line never = record {
  read = tt;
  found = λ then fact t. tt;
  unread = (λ e. never, λ n. refl);
  memory = λ e. absurd (cc e);
  frames = λ e. absurd (cc e);
  kept = refl;
  still = tt;
}

-- a line without a part tells nothing
pub unparted : (old : Known) (line : List ℕ) → parted (form_then old.form line) line ≡ None
    → IsAnswered old line old (Err Unread)
unparted old line none = unread-answered old line (λ then fact t. cc (sym none ∙ t.part))

pub some-same : {A : Type 0} {a b : A} → Some a ≡ Some b → a ≡ b
some-same e = cc e

-- ---- a line whose part is this

module _ (old : Known) (line : List ℕ) (group : Group) (text : List ℕ)
    (part : parted (form_then old.form line) line ≡ Some (group, text)) where
  abbrev then_with : Names → Known
  then_with after = record { form = Some (form_then old.form line); names = after }

  tells : (after : Names) (own : Fact) → IsLineIn group old.names text after own
      → Tells old line (then_with after) (placed group own)
  tells after own reads = record {
    group = group;
    text = text;
    own = own;
    part = part;
    reads = reads;
    form_is = refl;
    fact_is = refl;
  }

  pairs : (then : Known) (fact : Fact) (t : Tells old line then fact) → ◌≡◌ {A = Group × List ℕ} (t.group, t.text) (group, text)
  pairs then fact t = some-same (sym t.part ∙ part)

  groups : (then : Known) (fact : Fact) (t : Tells old line then fact) → t.group ≡ group
  groups then fact t = ap (λ (p : Group × List ℕ). p.0) (pairs then fact t)

  reads-so : (then : Known) (fact : Fact) (t : Tells old line then fact)
      → IsLineIn group old.names text then.names t.own
  reads-so then fact t =
      subst (λ (g : Group). IsLineIn g old.names text then.names t.own) (groups then fact t)
      (subst (λ (l : List ℕ). IsLineIn t.group old.names l then.names t.own) (ap (λ (p : Group × List ℕ). p.1) (pairs then fact t)) t.reads)

  fact-so : (then : Known) (fact : Fact) (t : Tells old line then fact) (own : Fact) → own ≡ t.own
      → placed group own ≡ fact
  fact-so then fact t own same =
      ap (placed group) same ∙ ap (λ (g : Group). placed g t.own) (sym (groups then fact t)) ∙ sym t.fact_is

  -- a line that was read, where nothing more is known then
  stays : (after : Names) (own : Fact) → (old.form ≡ None → old.names ≡ unnamed)
      → IsLineIn group old.names text after own → after ≡ old.names → then_with after ≡ old
  stays after own free reads same = by old.form refl
    where
      by : (f : Option Form) → old.form ≡ f → then_with after ≡ old
      by None is =
          absurd (none-read group text own
          (subst (λ (ns : Names). IsLineIn group ns text ns own) (free is)
          (subst (λ (ns : Names). IsLineIn group old.names text ns own) same reads)))
      by (Some f) is =
          let form : Some (form_then old.form line) ≡ old.form =
          ap (λ (g : Option Form). Some (form_then g line)) is ∙ sym is in
          λ i. record { form = form i; names = same i }

  still-so : (after : Names) (own : Fact) → (old.form ≡ None → old.names ≡ unnamed)
      → IsLineIn group old.names text after own → (after ≡ old.names) ⊎ IsLife own
      → (then_with after ≡ old) ⊎ IsLife (placed group own)
  still-so after own free reads (inl same) = inl (stays after own free reads same)
  still-so after own free reads (inr life) = inr (life-placed group own life)

  pub fact-answered : (after : Names) (own : Fact) → (old.form ≡ None → old.names ≡ unnamed)
      → IsRead group old.names text after (Ok own) → IsAnswered old line (then_with after) (Ok (placed group own))
  fact-answered after own free run = record {
    read = tells after own run.read;
    found = λ then fact t.
        let f = run.found then.names t.own (reads-so then fact t) in
        (fact-so then fact t own f.0, (λ i. record { form = sym t.form_is i; names = f.1 i }));
    unread = (λ e. absurd (cc e), λ n. absurd (n _ _ (tells after own run.read)));
    memory = λ e. absurd (cc e);
    frames = λ e. absurd (cc e);
    kept = tt;
    still = still-so after own free run.read run.still;
  }

  pub fault-answered : (after : Names) (fault : FactError) → IsRead group old.names text after (Err fault)
      → IsAnswered old line (record old { names = after }) (Err fault)
  fault-answered after fault run =
      subst (λ (ns : Names). IsAnswered old line (record old { names = ns }) (Err fault)) (sym run.kept) (by fault run)
    where
      by : (fault : FactError) → IsRead group old.names text after (Err fault) → IsAnswered old line old (Err fault)
      by Unread run = unread-answered old line
          (λ then fact t. run.unread.0 refl then.names t.own (reads-so then fact t))
      by Memory run = record {
        read = tt;
        found = λ then fact t. tt;
        unread = (λ e. absurd (cc e), λ n. let m = run.memory refl in absurd (n _ _ (tells m.0 m.1 m.2)));
        memory = λ e. let m = run.memory refl in (then_with m.0, placed group m.1, tells m.0 m.1 m.2);
        frames = λ e then fact t. subst IsOfFrame (fact-so then fact t t.own refl)
            (frame-placed group t.own (run.frames refl then.names t.own (reads-so then fact t)));
        kept = refl;
        still = tt;
      }

use Rattle.std.proofs.lemmas.Result.{on_ok_weaker}
use Rattle.transcript.specs.Rendering.{line}
use Rattle.transcript.proofs.Joining.{secret_spelled}
use Rattle.transcript.proofs.rendering.put_fact.Goals as goal

pub returns-in-Installed-clause-ok : goal.returns-in-Installed-clause-ok
unfolding line
returns-in-Installed-clause-ok c =
    rw (c.in-Installed.is, secret_spelled c.args.names.now c.in-Installed.sak)
    (rw (c.held_words-in-Installed.ensures, c.name_at-name.ensures, c.place.ensures, c.in-Installed.is) at c.put_installed.ensures.ok)

pub returns-in-Untaken-clause-ok : goal.returns-in-Untaken-clause-ok
unfolding line
returns-in-Untaken-clause-ok c =
    on_ok_weaker c.put_untaken.result (λ e. rw c.in-Untaken.is (rw (c.name_at-name.ensures, c.place.ensures, c.in-Untaken.is) at (e c.args.names.now))) c.put_untaken.ensures.ok

pub returns-in-HeardMka-clause-ok : goal.returns-in-HeardMka-clause-ok
unfolding line
returns-in-HeardMka-clause-ok c =
    on_ok_weaker c.put_heard.result (λ e. rw c.in-HeardMka.is (rw (c.name_at-name.ensures, c.place.ensures, c.in-HeardMka.is) at (e c.args.names.now))) c.put_heard.ensures.ok

pub returns-in-Unclaimed-clause-ok : goal.returns-in-Unclaimed-clause-ok
unfolding line
returns-in-Unclaimed-clause-ok c =
    on_ok_weaker c.put_unclaimed.result (λ e. rw c.in-Unclaimed.is (rw (c.name_at-name.ensures, c.place.ensures, c.in-Unclaimed.is) at (e c.args.names.now))) c.put_unclaimed.ensures.ok

pub returns-in-Arrived-clause-ok : goal.returns-in-Arrived-clause-ok
unfolding line
returns-in-Arrived-clause-ok c =
    on_ok_weaker c.put_arrived.result (λ e. rw c.in-Arrived.is (rw (c.name_at-name.ensures, c.place.ensures, c.in-Arrived.is) at (e c.args.names.now))) c.put_arrived.ensures.ok

pub returns-in-Server-clause-ok : goal.returns-in-Server-clause-ok
unfolding line
returns-in-Server-clause-ok c =
    on_ok_weaker c.put_server.result (λ e. rw c.in-Server.is (rw (c.name_at-name.ensures, c.place.ensures, c.in-Server.is) at (e c.args.names.now))) c.put_server.ensures.ok

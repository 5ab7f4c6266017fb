-- One client more, and the fault that ends the serving.
use Rattle.std.proofs.Common.{◌≤◌, ◌+◌, refl, le_refl, subst, arith, rules, Ok, Err, IsOk}
use Rattle.std.proofs.lemmas.Result.{err_from_is_err_and}
use Rattle.farm_serve.proofs.ServingLemmas.{serves_next, serves_none, serves_within}
use Rattle.farm_serve.proofs.ConnectionLemmas.{connections_begin, connections_next, connections_within}
use Rattle.farm_serve.proofs.serving.serve.Goals as goal

pub returns-in_err-serve_next-clause-serves : goal.returns-in_err-serve_next-clause-serves
returns-in_err-serve_next-clause-serves g c =
    let less : c.loop.counter + 1 ≤ c.args.max = omega (arith, c.loop-test.true) in
    let p = err_from_is_err_and c.from_residual.result c.from_residual.ensures.1 in
    rw (p.1, p.2) (serves_within {A = Unit {0}} g.S.Store c.args.keeper.now c.serve_next.new.keeper (c.loop.counter + 1) c.args.max (Err c.in_err-serve_next.field-0.0) less
    (serves_next {A = Unit {0}} g.S.Store c.args.keeper.now c.loop.keeper c.serve_next.new.keeper c.loop.counter (Err c.in_err-serve_next.field-0.0)
    c.loop.invariant.serves c.in_err-serve_next.ensures.serves))

pub returns-in_err-serve_next-clause-connections : goal.returns-in_err-serve_next-clause-connections
returns-in_err-serve_next-clause-connections g c =
    let less : c.loop.counter + 1 ≤ c.args.max = omega (arith, c.loop-test.true) in
    let p = err_from_is_err_and c.from_residual.result c.from_residual.ensures.1 in
    connections_within g.S.Store g.K.Reader.Input.never_fails (g.K.Clients.client_list c.args.clients.now) (g.K.Clients.client_list c.serve_next.new.clients) c.args.keeper.now c.serve_next.new.keeper
    (c.loop.counter + 1) c.args.max (IsOk c.from_residual.result) less (λ ok. absurd (let no = subst (λ r. IsOk r) p.1 ok in cc))
    (connections_next g.S.Store g.K.Reader.Input.never_fails (g.K.Clients.client_list c.args.clients.now) (g.K.Clients.client_list c.loop.clients)
    (g.K.Clients.client_list c.serve_next.new.clients) c.args.keeper.now c.loop.keeper c.serve_next.new.keeper c.loop.counter
    _ ⊥ (λ never. absurd never) c.loop.invariant.connections c.in_err-serve_next.ensures.connections)

pub loop-init : goal.loop-init
loop-init g c = record {
  clean = le_refl _;
  serves = serves_none g.S.Store c.args.keeper.now 0 (search rules);
  connections = connections_begin g.S.Store g.K.Reader.Input.never_fails (g.K.Clients.client_list c.args.clients.now) c.args.keeper.now (Unit {0});
}

pub loop-preserved : goal.loop-preserved
loop-preserved g c =
    record {
      clean = omega (arith, c.loop.invariant.clean, c.serve_next.ensures.clean);
      serves = serves_next g.S.Store c.args.keeper.now c.loop.keeper c.serve_next.new.keeper c.loop.counter (Ok c.in_ok-serve_next.field-0)
          c.loop.invariant.serves c.in_ok-serve_next.ensures.serves;
      connections = connections_next g.S.Store g.K.Reader.Input.never_fails (g.K.Clients.client_list c.args.clients.now) (g.K.Clients.client_list c.loop.clients)
          (g.K.Clients.client_list c.serve_next.new.clients) c.args.keeper.now c.loop.keeper c.serve_next.new.keeper c.loop.counter
          _ (Unit {0}) (λ _. refl) c.loop.invariant.connections c.in_ok-serve_next.ensures.connections;
    }

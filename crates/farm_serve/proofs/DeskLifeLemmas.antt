-- What a stop leaves of each life of a desk is found again by the next.
use Rattle.std.proofs.Common.{◌≡◌, List, [], ◌∷◌, ◌++◌, refl, sym, ap, ◌∙◌, subst, arith}
use Rattle.farm_serve.proofs.Names.{append_assoc, Call, fold-append, Ghosts, Holds, IsSound-run, KeeperState, KeepsOwnFarm, rows_of, state, Trees}
use Rattle.sqlite.specs.Held.{Held}
use Rattle.sqlite.specs.State.{HasCleanDisk}
use Rattle.farm_types.specs.Names.{Farm, IsSound, run, step}
use Rattle.farm_store.specs.Holds.{Stands}
use Rattle.farm_keep.specs.Lives.{OpensOn}
use Rattle.farm_keep.proofs.LifeLemmas.{StandsOpened}
use Rattle.farm_serve.specs.Names.{all_connections, AreDeskLives, Connection, connections_of, DeskLife, Do, IsDeskLife, IsServedLife}
use Rattle.farm_serve.proofs.StopLemmas.{LeftServed, served_left}

-- ---- connections of one list and then of another

run_on : (F : Farm) (before calls : List Call) → run (run F before) calls ≡ run F (before ++ calls)
run_on F before calls = sym (fold-append step F before calls)

do_more : (F : Farm) (first second : List Connection) (done more : List Call) → Do F first done → Do (run F done) second more → Do F (first ++ second) (done ++ more)
do_more F [] second done more a b =
    subst (λ calls. Do F second (calls ++ more)) (sym a) (subst (λ calls. Do (run F calls) second more) a b)
do_more F (connection ∷ first) second done more a b =
    let G = run F a.0 in
    let same : run F done ≡ run G a.1 = ap (run F) a.4 ∙ sym (run_on F a.0 a.1) in
    let rest = do_more G first second a.1 more a.3 (subst (λ H. Do H second more) same b) in
    (a.0, a.1 ++ more, a.2, rest, ap (λ calls. calls ++ more) a.4 ∙ append_assoc a.0 a.1 more)

-- ---- one life

at_opening : {S : Type 0} (g : Ghosts S) → StandsOpened g → (opened : Held S) (first : Trees) (F : Farm)
    → Holds first (rows_of F) → OpensOn (state g opened) first → Stands (state g opened) (rows_of F)
at_opening g stands opened first F holds opens =
    stands opened opens.opens opens.live (rows_of F) (subst (λ (t : Trees). Holds t (rows_of F)) (sym opens.on) holds)

served_life : {S : Type 0} (g : Ghosts S) (Sure : Type 0) → StandsOpened g → (opened : Held S) (adopted keeper : KeeperState S) (connections : List Connection) (first last : Trees) (F : Farm)
    → IsSound F → Holds first (rows_of F) → IsServedLife g Sure opened adopted keeper connections first last → LeftServed last F connections
served_life g Sure stands opened adopted keeper connections first last F sound holds it =
    let at = at_opening g stands opened first F holds it.opens in
    let made = it.adopts in
    let early : HasCleanDisk (state g adopted.conn) = omega (arith, it.doubted, it.clean) in
    let keeps : KeepsOwnFarm g adopted = λ clean. subst (Stands (state g adopted.conn)) (sym (made.rows clean (rows_of F) at)) (made.stands clean (rows_of F) at) in
    subst (λ G. LeftServed last G connections) (made.exact early F sound at) (served_left g Sure connections adopted keeper last it.serves keeps it.clean it.left)

one_life : {S : Type 0} (g : Ghosts S) (Sure : Type 0) → StandsOpened g → (life : DeskLife S) (first last : Trees) (F : Farm)
    → IsSound F → Holds first (rows_of F) → IsDeskLife g Sure life first last → LeftServed last F (connections_of life)
one_life g Sure stands (DeskLife.Looked opened conn) first last F sound holds it =
    record { done = []; does = refl; holds = (at_opening g stands opened first F holds it.opens).left last (it.reads.left it.clean last it.left) }
one_life g Sure stands (DeskLife.Served opened adopted keeper connections) first last F sound holds it =
    served_life g Sure stands opened adopted keeper connections first last F sound holds it

-- ---- all of them

pub desk_lives : {S : Type 0} (g : Ghosts S) (Sure : Type 0) → StandsOpened g → (lives : List (DeskLife S)) (first last : Trees) (F : Farm)
    → IsSound F → Holds first (rows_of F) → AreDeskLives g Sure lives first last → LeftServed last F (all_connections lives)
desk_lives g Sure stands [] first last F sound holds lived =
    record { done = []; does = refl; holds = subst (λ (t : Trees). Holds t (rows_of F)) lived holds }
desk_lives g Sure stands (life ∷ lives) first last F sound holds lived =
    let one = one_life g Sure stands life first lived.0 F sound holds lived.1 in
    let rest = desk_lives g Sure stands lives lived.0 last (run F one.done) (IsSound-run one.done F sound) one.holds lived.2 in
    record {
      done = one.done ++ rest.done;
      does = do_more F (connections_of life) (all_connections lives) one.done rest.done one.does rest.does;
      holds = subst (λ G. Holds last (rows_of G)) (run_on F one.done rest.done) rest.holds;
    }

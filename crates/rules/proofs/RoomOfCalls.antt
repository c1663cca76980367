-- 19 by keys: where the three tables are well formed, they have room after a write, or after several, exactly if records held plus distinct new keys do
-- not exceed capacity. Writing several commits is putting all their keys, all their checkpoints and all their entries, in that order.
use Prim.Native.Nat.{Ordering}
use Rattle.std.proofs.Common.{◌≡◌, Bool, true, false, ◌&&◌, ◌↔◌, List, [], ◌∷◌, ◌++◌, sym, refl, ap, ◌∙◌}
use Rattle.basics.proofs.OrderLaws.{log_lsn_lawful, log_page_lsn_lawful}
use Rattle.basics.specs.Orders.{log_lsn, log_page_lsn}
use Rattle.basics.specs.Answers.{refused}
use Rattle.rules.specs.Records.{Commit, commit_key, checkpoint_key, entry_key}
use Rattle.rules.specs.Tables.{put_all, store_all}
use Rattle.rules.specs.Arguments.{commit_lsns, commit_lists}
use Rattle.rules.specs.Write.{Logs, checkpoints_of, entries_of, write, write_all, logs_formed, logs_fit, write_commit}
use Rattle.rules.specs.Room.{has_room, each, logs_room}
use Rattle.rules.proofs.TableLaws.{cases}
use Rattle.rules.proofs.AnswerLaws.{refused_done}
use Rattle.rules.proofs.Rooms.{fits_store_all}
use Rattle.rules.proofs.Write.{logs_rows}

-- two runs put one after the other
pub put_all_append : {R K : Type 0} (key : R → K) (order : K → K → Ordering) (xs ys l : List R) → put_all key order (xs ++ ys) l ≡ put_all key order ys (put_all key order xs l)
unfolding put_all
put_all_append key order [] ys l = refl
put_all_append key order (x ∷ xs) ys l = put_all_append key order xs ys _

-- several commits written: what comes to each table
pub commits_all : (g : Logs) (cs : List Commit) → (write_all g cs).commits ≡ store_all commit_key log_lsn cs g.commits
unfolding write_all write put_all
commits_all g [] = refl
commits_all g (c ∷ cs) = commits_all (write g c) cs

pub checkpoints_all : (g : Logs) (cs : List Commit) → (write_all g cs).checkpoints ≡ store_all checkpoint_key log_lsn (each checkpoints_of cs) g.checkpoints
unfolding write_all write put_all each
checkpoints_all g [] = refl
checkpoints_all g (c ∷ cs) =
    checkpoints_all (write g c) cs ∙ (λ i. record { room = g.checkpoints.room; rows = sym (put_all_append checkpoint_key log_lsn (checkpoints_of c) (each checkpoints_of cs) g.checkpoints.rows) i })

pub index_all : (g : Logs) (cs : List Commit) → (write_all g cs).index ≡ store_all entry_key log_page_lsn (each entries_of cs) g.index
unfolding write_all write put_all each
index_all g [] = refl
index_all g (c ∷ cs) = index_all (write g c) cs ∙ (λ i. record { room = g.index.room; rows = sym (put_all_append entry_key log_page_lsn (entries_of c) (each entries_of cs) g.index.rows) i })

-- the law of room for the calls that store commits
pub logs_room_lem : (g : Logs) (cs : List Commit) → logs_formed g ≡ true → logs_fit (write_all g cs) ≡ logs_room g cs
unfolding logs_fit logs_room
logs_room_lem g cs f =
    let k = logs_rows g f in
    rw (commits_all g cs, checkpoints_all g cs, index_all g cs, fits_store_all commit_key log_lsn log_lsn_lawful cs g.commits k.commits.up, fits_store_all checkpoint_key log_lsn log_lsn_lawful (each checkpoints_of cs) g.checkpoints k.checkpoints.up)
    (ap (λ (b : Bool). has_room commit_key log_lsn g.commits cs && has_room checkpoint_key log_lsn g.checkpoints (each checkpoints_of cs) && b) (fits_store_all entry_key log_page_lsn log_page_lsn_lawful (each entries_of cs) g.index k.index.up))

write_room : (g : Logs) (c : Commit) → logs_formed g ≡ true → logs_fit (write g c) ≡ logs_room g (c ∷ [])
unfolding write_all
write_room g c f = logs_room_lem g (c ∷ []) f

-- write a commit: 19 exactly if the earlier checks pass and for some table records held plus new keys exceed capacity
pub write_19 : (g : Logs) (c : Commit) → logs_formed g ≡ true → commit_lsns c ≡ true → commit_lists c ≡ true → (write_commit g c ≡ refused 19) ↔ (logs_room g (c ∷ []) ≡ false)
unfolding write_commit
write_19 g c f one three =
    (λ e. cases (logs_room g (c ∷ [])) (λ q. refused_done (sym (rw (f, one, three, write_room g c f ∙ q) at e))) (λ q. q), λ q. rw (f, one, three, write_room g c f ∙ q))

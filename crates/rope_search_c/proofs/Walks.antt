-- The words of the logic that the proofs by hand use.
pub use mathlib.Core.Path.{◌≡◌, refl, sym, ap, subst, ◌∙◌}
pub use mathlib.Core.Bool.{Bool, true, false}
pub use mathlib.Core.List.{List, [], ◌∷◌, ◌++◌}
pub use mir.Val.{Val, vptr, vbool, vstruct, vcons, vnil, of_list, has_ty, WT}
pub use base.Logic.{emp, id⊢, never, fst∗}
pub use base.Fml.{ftrue, fsep}
pub use prog.Wp.{WpFn}
pub use types.Logic.{Logic, sem}
pub use contract.Monad.{fact}
pub use contract.Running.{tables}
pub use types.Kit.{Item, Goal, Seq, Step, step, ‵, raw, prop, at_ret, ◌⊛◌, some, later, ◌$◌, ◌∵◌, !, qed, move, drop, use0, use1, split, join, pick, rewrite, regoal, fsplit, fjoin, fpick, fpack, feq_i, feq_l, suffices, await, done}
pub use types.Part.{whole, sub, agg}
pub use types.Run.{stop, fld, no_more, and_then, of_opd, lit, true_lit, false_lit, returns, enter, first, blocks, branches, exec}
pub use types.ByLocal.{alloc_all, pass_all, free_all, look_at, get, get_in, sets, sets_last, lands_as, lands_last, env}
pub use denote.RattleType.{RattleType, Valss}
pub use denote.Builtin.{RawPtr, bool}
pub use denote.Exit.{yes, no}
pub use denote.Param.{layout}
pub use denote.RawPtr.{Ptr, block_ptr, null_ptr, ptr_val, in_a_block}
pub use denote.Signature.{plain}
pub use denote.Steps.{heard, nothing, only}
pub use denote.Triple.Walked.{says, Stays, stay_dropped, walk_of, ends_at, Goes-dropped}
pub use Rattle.std.proofs.raw_atomic.Walks.{proved_at}
pub use Rattle.std_alloc.proofs.BoxSteps.Form.{Bx, D, R, P, B, word, box_typed}
pub use Rattle.std_alloc.proofs.BoxSteps.Steps.{box_out, box_in}

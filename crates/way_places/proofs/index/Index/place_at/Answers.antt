use Rattle.std.proofs.Common.{ap, sym, ◌∙◌}
use Rattle.std.specs.List.{filter}
use Rattle.c_core.specs.Places.{is_named, leftmost, place_at}
use Rattle.c_core.specs.View.{program_view}
use Rattle.c_core.specs.declared.place.PlaceKind.TheVariants.{Statement, Loop, Branch, CallEnd}
use Rattle.way_places.proofs.index.Index.place_at.Goals as goal

pub returns-in-Statement : goal.returns-in-Statement
returns-in-Statement c =
    c.named_in.ensures ∙ ap (λ l. leftmost (filter (is_named c.args.line c.args.column) l)) c.as_slice.ensures.value
    ∙ c.self.invariant.statements.exact c.args.line c.args.column ∙ ap (λ v. place_at (program_view v) Statement c.args.line c.args.column) c.self.view_is
    ∙ ap (λ k. place_at (program_view c.args.self.now) k c.args.line c.args.column) (sym c.in-Statement.is)

pub returns-in-Loop : goal.returns-in-Loop
returns-in-Loop c =
    c.named_in-in-Loop.ensures ∙ ap (λ l. leftmost (filter (is_named c.args.line c.args.column) l)) c.as_slice-in-Loop.ensures.value
    ∙ c.self.invariant.loops.exact c.args.line c.args.column ∙ ap (λ v. place_at (program_view v) Loop c.args.line c.args.column) c.self.view_is
    ∙ ap (λ k. place_at (program_view c.args.self.now) k c.args.line c.args.column) (sym c.in-Loop.is)

pub returns-in-Branch : goal.returns-in-Branch
returns-in-Branch c =
    c.named_in-in-Branch.ensures ∙ ap (λ l. leftmost (filter (is_named c.args.line c.args.column) l)) c.as_slice-in-Branch.ensures.value
    ∙ c.self.invariant.branches.exact c.args.line c.args.column ∙ ap (λ v. place_at (program_view v) Branch c.args.line c.args.column) c.self.view_is
    ∙ ap (λ k. place_at (program_view c.args.self.now) k c.args.line c.args.column) (sym c.in-Branch.is)

pub returns-in-CallEnd : goal.returns-in-CallEnd
returns-in-CallEnd c =
    c.named_in-in-CallEnd.ensures ∙ ap (λ l. leftmost (filter (is_named c.args.line c.args.column) l)) c.as_slice-in-CallEnd.ensures.value
    ∙ c.self.invariant.call_ends.exact c.args.line c.args.column ∙ ap (λ v. place_at (program_view v) CallEnd c.args.line c.args.column) c.self.view_is
    ∙ ap (λ k. place_at (program_view c.args.self.now) k c.args.line c.args.column) (sym c.in-CallEnd.is)

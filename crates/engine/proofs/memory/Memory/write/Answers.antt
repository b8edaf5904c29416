-- Room for a page, the page, room for its record, and the entry, in this order.
use Rattle.std.proofs.Common.{◌≡◌, ◌<◌, Ok, Err, sym, ap, ◌∙◌, subst}
use Rattle.std.proofs.lemmas.Result.{err_from_is_err_and}
use Rattle.layout.specs.Geometry.{data_pages}
use Rattle.journal.specs.Notes.{noted, pages_of}
use Rattle.space.specs.Rooms.{FindsRoom, Placed, Places}
use Rattle.engine.specs.Works.{Holding, MakesRoomy, Enters, Writes}
use Rattle.engine.proofs.Written.{room_holding, placed_holding, write_room, write_unmarked, write_data, write_unfound, write_unplaced, write_crowded, write_ends}
use Rattle.engine.proofs.memory.Memory.write.Goals as goal

pub returns-in_err-page : goal.returns-in_err-page
returns-in_err-page g c =
    let p = err_from_is_err_and c.from_residual.result c.from_residual.ensures.1 in
    let j = c.args.self.now.journal in
    let m = g.C.Chip.meaning c.args.chip.now in
    let m₁ = g.C.Chip.meaning c.find_room.new.chip in
    let v₁ = noted c.find_room.new.journal in
    let sp₁ = c.find_room.new.self in
    record {
      size = c.find_room.ensures.size;
      writes = rw (p.1, p.2) (write_unfound (pages_of j) j.geometry.blocks c.args.dirty c.args.address.0 c.args.bytes.now m (noted j) c.args.self.now.space
          c.in_err-page.field-0.0 m₁ v₁ sp₁ c.in_err-page.ensures.finds);
    }

pub returns-in_err-place-in-Some : goal.returns-in_err-place-in-Some
returns-in_err-place-in-Some g c =
    let p = err_from_is_err_and c.from_residual-in_err-place-in-Some.result c.from_residual-in_err-place-in-Some.ensures.1 in
    let j = c.args.self.now.journal in
    let D = pages_of j in
    let m = g.C.Chip.meaning c.args.chip.now in
    let m₁ = g.C.Chip.meaning c.find_room.new.chip in
    let v₁ = noted c.find_room.new.journal in
    let sp₁ = c.find_room.new.self in
    let i = c.in-Some.page in
    let a = c.args.address.0 in
    let bytes = c.args.bytes.now in
    let f = c.in_err-place-in-Some.field-0.0 in
    let m₂ = g.C.Chip.meaning c.place.new.chip in
    let sp₂ = c.place.new.self in
    let size : pages_of c.find_room.new.journal ≡ D = ap (λ z. data_pages z.blocks) c.find_room.ensures.size in
    let found = subst (λ o. FindsRoom D j.geometry.blocks m (noted j) c.args.self.now.space (Ok o) m₁ v₁ sp₁) c.in-Some.is c.in_ok-page.ensures.finds in
    record {
      size = c.find_room.ensures.size;
      writes = rw (p.1, p.2) (write_unplaced D j.geometry.blocks m (noted j) c.args.self.now.space i m₁ v₁ sp₁ found c.args.dirty a bytes f m₂ sp₂
          (subst (λ d. Places d i.0 a bytes m₁ v₁ sp₁ (Err f) m₂ sp₂) size c.in_err-place-in-Some.ensures.places));
    }

pub make_roomy-requires : goal.make_roomy-requires
make_roomy-requires g c =
    let j = c.args.self.now.journal in
    let D = pages_of j in
    let blocks = j.geometry.blocks in
    let m = g.C.Chip.meaning c.args.chip.now in
    let v = noted j in
    let sp = c.args.self.now.space in
    let m₁ = g.C.Chip.meaning c.find_room.new.chip in
    let v₁ = noted c.find_room.new.journal in
    let sp₁ = c.find_room.new.self in
    let i = c.in-Some.page in
    let a = c.args.address.0 in
    let bytes = c.args.bytes.now in
    let m₂ = g.C.Chip.meaning c.place.new.chip in
    let sp₂ = c.place.new.self in
    let size : pages_of c.find_room.new.journal ≡ D = ap (λ z. data_pages z.blocks) c.find_room.ensures.size in
    let found = subst (λ o. FindsRoom D blocks m v sp (Ok o) m₁ v₁ sp₁) c.in-Some.is c.in_ok-page.ensures.finds in
    let laid = subst (λ d. Placed d i.0 a bytes m₁ v₁ sp₁ m₂ sp₂) size c.in_ok-place-in-Some.ensures.places in
    let (u, k, _) = room_holding D blocks m v sp i m₁ v₁ sp₁ found c.requires.holding.0 c.requires.holding.1 in
    record {
      holding = (u, subst (λ d. Holding d m₂ v₁ sp₂ u) (sym size) (placed_holding D blocks m v sp i m₁ v₁ sp₁ found c.args.dirty a bytes m₂ sp₂ laid u k));
    }

pub returns-in_err-make_roomy-in-Some : goal.returns-in_err-make_roomy-in-Some
returns-in_err-make_roomy-in-Some g c =
    let p = err_from_is_err_and c.from_residual-in_err-make_roomy-in-Some.result c.from_residual-in_err-make_roomy-in-Some.ensures.1 in
    let j = c.args.self.now.journal in
    let D = pages_of j in
    let blocks = j.geometry.blocks in
    let m = g.C.Chip.meaning c.args.chip.now in
    let v = noted j in
    let sp = c.args.self.now.space in
    let m₁ = g.C.Chip.meaning c.find_room.new.chip in
    let v₁ = noted c.find_room.new.journal in
    let sp₁ = c.find_room.new.self in
    let i = c.in-Some.page in
    let a = c.args.address.0 in
    let bytes = c.args.bytes.now in
    let m₂ = g.C.Chip.meaning c.place.new.chip in
    let sp₂ = c.place.new.self in
    let size : pages_of c.find_room.new.journal ≡ D = ap (λ z. data_pages z.blocks) c.find_room.ensures.size in
    let found = subst (λ o. FindsRoom D blocks m v sp (Ok o) m₁ v₁ sp₁) c.in-Some.is c.in_ok-page.ensures.finds in
    let laid = subst (λ d. Placed d i.0 a bytes m₁ v₁ sp₁ m₂ sp₂) size c.in_ok-place-in-Some.ensures.places in
    let f = c.in_err-make_roomy-in-Some.field-0.0 in
    let m₃ = g.C.Chip.meaning c.make_roomy.new.chip in
    let v₃ = noted c.make_roomy.new.self.journal in
    record {
      size = c.make_roomy.ensures.size ∙ c.find_room.ensures.size;
      writes = rw (p.1, p.2) (subst (λ z. Writes D blocks c.args.dirty a bytes m v sp (Err f) m₃ v₃ z) (sym c.in_err-make_roomy-in-Some.ensures.space)
          (write_crowded D blocks m v sp i m₁ v₁ sp₁ found c.args.dirty a bytes m₂ sp₂ laid f m₃ v₃
          (subst (λ d. MakesRoomy d m₂ v₁ sp₂ (Err f) m₃ v₃) size c.in_err-make_roomy-in-Some.ensures.roomy)));
    }

pub enter-requires : goal.enter-requires
enter-requires g c =
    let j = c.args.self.now.journal in
    let D = pages_of j in
    let blocks = j.geometry.blocks in
    let m = g.C.Chip.meaning c.args.chip.now in
    let v = noted j in
    let sp = c.args.self.now.space in
    let m₁ = g.C.Chip.meaning c.find_room.new.chip in
    let v₁ = noted c.find_room.new.journal in
    let sp₁ = c.find_room.new.self in
    let i = c.in-Some.page in
    let a = c.args.address.0 in
    let bytes = c.args.bytes.now in
    let m₂ = g.C.Chip.meaning c.place.new.chip in
    let sp₂ = c.place.new.self in
    let size : pages_of c.find_room.new.journal ≡ D = ap (λ z. data_pages z.blocks) c.find_room.ensures.size in
    let found = subst (λ o. FindsRoom D blocks m v sp (Ok o) m₁ v₁ sp₁) c.in-Some.is c.in_ok-page.ensures.finds in
    let laid = subst (λ d. Placed d i.0 a bytes m₁ v₁ sp₁ m₂ sp₂) size c.in_ok-place-in-Some.ensures.places in
    let m₃ = g.C.Chip.meaning c.make_roomy.new.chip in
    let v₃ = noted c.make_roomy.new.self.journal in
    let size₃ : pages_of c.make_roomy.new.self.journal ≡ D = ap (λ z. data_pages z.blocks) c.make_roomy.ensures.size ∙ size in
    let roomier = subst (λ d. MakesRoomy d m₂ v₁ sp₂ (Ok tt) m₃ v₃) size c.in_ok-make_roomy-in-Some.ensures.roomy in
    let (u, k, _) = room_holding D blocks m v sp i m₁ v₁ sp₁ found c.requires.holding.0 c.requires.holding.1 in
    let (u₂, k₂, _) = roomier.2 u (placed_holding D blocks m v sp i m₁ v₁ sp₁ found c.args.dirty a bytes m₂ sp₂ laid u k) in
    record {
      holding = (u₂, subst (λ z. Holding (pages_of c.make_roomy.new.self.journal) m₃ v₃ z u₂) (sym c.make_roomy.ensures.space) (subst (λ d. Holding d m₃ v₃ sp₂ u₂) (sym size₃) k₂));
      room = write_room D blocks m v sp i m₁ v₁ sp₁ found c.args.dirty a bytes m₂ sp₂ laid m₃ v₃ roomier u k.keeps.ready;
      inside = subst (λ d. i.0 < d) (sym size₃) found.2.inside;
      unmarked = write_unmarked D blocks m v sp i m₁ v₁ sp₁ found c.args.dirty a bytes m₂ sp₂ laid m₃ v₃ roomier u k.keeps.ready;
      «data» = write_data D blocks m v sp i m₁ v₁ sp₁ found c.args.dirty a bytes m₂ sp₂ laid m₃ v₃ roomier;
    }

pub returns-in_ok-make_roomy-in-Some : goal.returns-in_ok-make_roomy-in-Some
returns-in_ok-make_roomy-in-Some g c =
    let j = c.args.self.now.journal in
    let D = pages_of j in
    let blocks = j.geometry.blocks in
    let m = g.C.Chip.meaning c.args.chip.now in
    let v = noted j in
    let sp = c.args.self.now.space in
    let m₁ = g.C.Chip.meaning c.find_room.new.chip in
    let v₁ = noted c.find_room.new.journal in
    let sp₁ = c.find_room.new.self in
    let i = c.in-Some.page in
    let a = c.args.address.0 in
    let bytes = c.args.bytes.now in
    let m₂ = g.C.Chip.meaning c.place.new.chip in
    let sp₂ = c.place.new.self in
    let size : pages_of c.find_room.new.journal ≡ D = ap (λ z. data_pages z.blocks) c.find_room.ensures.size in
    let found = subst (λ o. FindsRoom D blocks m v sp (Ok o) m₁ v₁ sp₁) c.in-Some.is c.in_ok-page.ensures.finds in
    let laid = subst (λ d. Placed d i.0 a bytes m₁ v₁ sp₁ m₂ sp₂) size c.in_ok-place-in-Some.ensures.places in
    let m₃ = g.C.Chip.meaning c.make_roomy.new.chip in
    let v₃ = noted c.make_roomy.new.self.journal in
    let size₃ : pages_of c.make_roomy.new.self.journal ≡ D = ap (λ z. data_pages z.blocks) c.make_roomy.ensures.size ∙ size in
    let roomier = subst (λ d. MakesRoomy d m₂ v₁ sp₂ (Ok tt) m₃ v₃) size c.in_ok-make_roomy-in-Some.ensures.roomy in
    let m₄ = g.C.Chip.meaning c.enter.new.chip in
    let v₄ = noted c.enter.new.self.journal in
    let kept = c.in_ok-make_roomy-in-Some.ensures.space in
    record {
      size = c.enter.ensures.size ∙ c.make_roomy.ensures.size ∙ c.find_room.ensures.size;
      writes = subst (λ z. Writes D blocks c.args.dirty a bytes m v sp c.enter.result m₄ v₄ z) (sym (c.enter.ensures.space ∙ kept))
          (write_ends D blocks m v sp i m₁ v₁ sp₁ found c.args.dirty a bytes m₂ sp₂ laid m₃ v₃ roomier c.enter.result m₄ v₄
          (subst (λ z. Enters D c.args.dirty i.0 a m₃ v₃ z c.enter.result m₄ v₄) kept
          (subst (λ d. Enters d c.args.dirty i.0 a m₃ v₃ c.make_roomy.new.self.space c.enter.result m₄ v₄) size₃ c.enter.ensures.enters)));
    }

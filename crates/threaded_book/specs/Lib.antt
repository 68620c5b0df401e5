-- what is below and is named by the crates above
pub use Rattle.rollback_book.specs.Book
pub use Rattle.rollback_book.specs.contracts.book.Book as BookContract

-- How many registers the line of an atomic operation has.
pub use Rattle.ax_image.proofs.Words.{AreWords, HasWords, few_given, few_registers, few_taken, has_words}

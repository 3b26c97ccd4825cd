pub mod UniqueTable

pub mod CatalogueValid

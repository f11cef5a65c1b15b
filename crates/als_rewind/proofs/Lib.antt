mod Copied
mod Nodes
mod Said
